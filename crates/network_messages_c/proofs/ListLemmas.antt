-- Made by `./format --c`, which prints the same for each crate: edit tools/describing/c/shared.py.
-- Items of lists in slices.
use Rattle.std.proofs.Common.{◌≡◌, ◌∙◌, ◌<◌, ◌≤◌, ◌+◌, ◌++◌, ◌∷◌, [], ℕ, List, Result, Ok, Err, length, take, drop, set, get_or, refl, sym, ap, ap₂, arith, append_assoc, length-append, length-drop}
use Rattle.std.specs.Prelude.{IfOk, IsOk}
use Rattle.std.specs.Result.{IsErrAnd}
use Rattle.std.proofs.lemmas.Grind.{common_steps}
use Rattle.std.proofs.lemmas.Bool.{cases_lt}
use Rattle.std.proofs.lemmas.List.{drop_more, length-take-le, set_at, take_all}
use Rattle.bitstream_io.proofs.CallerLemmas.{inl, inr}
use Rattle.bitstream_io.specs.Callers.{Error, Order, BitSource, Reads, bytes_decoder, vec_decoder}
use Rattle.bitstream_io.proofs.ReadsLemmas.{Reads-same}
use Rattle.network_messages_c.specs.Lists.{stored}

-- a read of bytes is one of a vector that never asks for memory
pub bytes_into : {R : Type 0} {K : BitSource R} (o : Order) (n : ℕ) {r : Result (List ℕ) Error} {s t : R}
    → Reads K (bytes_decoder o n) s r t → Reads K (vec_decoder o n) s r t
bytes_into o n h = Reads-same (record { reads = λ p b. refl; on_failed = refl }) h

-- what is no success
pub failed_ok : {X : Type 0} (P : Error → Type 0) (r : Result (Unit {0}) Error) → IsErrAnd r P → IsOk r → X
failed_ok P (Ok u) bad ok = absurd bad
failed_ok P (Err e) is ok = cc

pub failed_if : {A E : Type 0} (P : E → Type 0) (Q : A → Type 0) (r : Result A E) → IsErrAnd r P → IfOk r Q
failed_if P Q (Ok x) bad = absurd bad
failed_if P Q (Err e) is = tt

-- no item
pub kept_begin : {A : Type 0} (was : List A) → was ≡ stored [] was
kept_begin was = grind (arith, common_steps)

-- an item without room
pub kept_none : {A : Type 0} (all was now : List A) (item : A) → length now ≤ length all → now ≡ stored all was
    → now ≡ stored (all ++ item ∷ []) was
kept_none all was now item le is = grind (arith, common_steps)

-- and one with room
pub kept_more : {A : Type 0} (all was now : List A) (item : A) → length all < length now → now ≡ stored all was
    → set now (length all) item ≡ stored (all ++ item ∷ []) was
kept_more all was now item less is =
    elim (cases_lt (length all) (length was)) [
      | inl room ↦
          let some = drop_more was (length all) item room in
          let whole = is ∙ ap₂ (λ x y. x ++ y) (take_all (length was) all (omega (arith, room))) some in
          let count : length (all ++ item ∷ []) ≡ length all + 1 = length-append all (item ∷ []) in
          ap (λ xs. set xs (length all) item) whole
          ∙ set_at all (get_or was (length all) item) (drop (length all + 1) was) item (length all) refl
          ∙ sym (append_assoc all (item ∷ []) (drop (length all + 1) was))
          ∙ ap₂ (λ x y. x ++ y) (sym (take_all (length was) (all ++ item ∷ []) (omega (arith, count, room))))
          (ap (λ k. drop k was) (sym count))
      | inr full ↦
          let size = ap length is ∙ length-append (take (length was) all) (drop (length all) was) in
          let first = length-take-le (length was) all full in
          let rest = length-drop (length all) was in
          absurd (omega (arith, less, size, first, rest, full))
    ]
