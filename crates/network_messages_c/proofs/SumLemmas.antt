-- Made by `./format --c`, which prints the same for each crate: edit tools/describing/c/shared.py.
-- Reads, and then a test of a checksum; items of lists that slices hold.
use Rattle.std.proofs.Common.{◌≡◌, ◌∙◌, ◌≤◌, ◌+◌, ◌++◌, ℕ, Bool, true, false, List, Result, Ok, Err, length, take, drop, nat_lt, refl, sym, ap, arith, length-append, length-drop}
use borrow.Author.Tests.{ltb-false}
use Rattle.std.specs.Prelude.{if◌then◌else◌}
use Rattle.std.proofs.lemmas.Bool.{cases_lt}
use Rattle.std.proofs.lemmas.List.{length-take-le, take_all, take_at}
use Rattle.bitstream_io.proofs.CallerLemmas.{inl, inr}
use Rattle.bitstream_io.specs.Callers.{Decoder, part_then, pure}
use Rattle.bitstream_io.specs.Codec.{Prefix, Incomplete, Done, advance, and_then, prefix_then}
use Rattle.network_messages_c.specs.Lists.{stored}
use Rattle.network_messages_c.specs.Sums.{tested}

-- ---- reads with a test, and without it

module _ {A B E : Type 0} (test : A → Result B E) where
  -- reads that are others, and then the test
  pub record Tests (d : Decoder (Result B E)) (u : Decoder (Result A E)) : Type 0 where
    pub same : (p : ℕ) (bits : List Bool) → d.reads p bits ≡ tested test (u.reads p bits)

  tested-advance : (n : ℕ) (u : Prefix (Result A E)) → advance n (tested test u) ≡ tested test (advance n u)
  tested-advance n Incomplete = refl
  tested-advance n (Done m (Ok r)) = refl
  tested-advance n (Done m (Err e)) = refl

  then-tested : {C : Type 0} (x : Prefix C) (f : ℕ → C → Prefix (Result B E)) (g : ℕ → C → Prefix (Result A E))
      → ((n : ℕ) (c : C) → f n c ≡ tested test (g n c)) → prefix_then x f ≡ tested test (prefix_then x g)
  then-tested Incomplete f g same = refl
  then-tested (Done n (Ok c)) f g same = ap (advance n) (same n c) ∙ tested-advance n (g n c)
  then-tested (Done n (Err e)) f g same = refl

  -- a read before them
  pub tests-read : {C : Type 0} (e : Decoder C) {f : C → Decoder (Result B E)} {g : C → Decoder (Result A E)}
      → ((c : C) → Tests (f c) (g c)) → Tests (and_then e f) (and_then e g)
  unfolding and_then
  tests-read e each = record {
    same = λ p bits. then-tested (e.reads p bits) _ _ (λ n c. (each c).same (p + n) (drop n bits));
  }

  -- a test of a constant before them
  pub tests-if : (is : Bool) (err : E) {d : Decoder (Result B E)} {u : Decoder (Result A E)} → Tests d u
      → Tests (if is then d else pure (Err err)) (if is then u else pure (Err err))
  tests-if true err all = all
  tests-if false err all = record { same = λ p bits. refl }

  -- a read with errors of its own before them
  pub tests-part : {C : Type 0} {f : C → Decoder (Result B E)} {g : C → Decoder (Result A E)}
      → ((c : C) → Tests (f c) (g c)) → (r : Result C E) → Tests (part_then f r) (part_then g r)
  tests-part each (Ok c) = each c
  tests-part each (Err e) = record { same = λ p bits. refl }

  -- the test
  pub tests-end : (a : A) (is : Bool) (b : B) (err : E) → test a ≡ (if is then Ok b else Err err)
      → Tests (if is then pure (Ok b) else pure (Err err)) (pure (Ok a))
  tests-end a true b err is = record { same = λ p bits. ap (λ r. Done 0 (Ok r)) (sym is) }
  tests-end a false b err is = record { same = λ p bits. ap (λ r. Done 0 (Ok r)) (sym is) }

  -- the ends of these reads
  abbrev read_end : ℕ → Result A E → Prefix (Result A E)
  read_end n r = Done n (Ok r)

  abbrev test_end : ℕ → Result B E → Prefix (Result B E)
  test_end n r = Done n (Ok r)

  done_ok : (n k : ℕ) (a : A) (b : B) → test_end n (test a) ≡ test_end k (Ok b)
      → (c : A) × (read_end n (Ok a) ≡ read_end k (Ok c)) × (test c ≡ Ok b)
  done_ok n k a b is = let count : n ≡ k = cc in (a, ap (λ j. read_end j (Ok a)) count, cc)

  -- what passed the test
  pub done-tested : (u : Prefix (Result A E)) (k : ℕ) (b : B) → tested test u ≡ test_end k (Ok b)
      → (a : A) × (u ≡ read_end k (Ok a)) × (test a ≡ Ok b)
  done-tested Incomplete k b is = absurd (let no = is in cc)
  done-tested (Done n (Ok (Ok a))) k b is = done_ok n k a b is
  done-tested (Done n (Ok (Err e))) k b is = absurd (let no = is in cc)
  done-tested (Done n (Err e)) k b is = absurd (let no = is in cc)

-- a test that held
pub if-ok : {B E : Type 0} (is : Bool) (a b : B) (err : E) → (if is then Ok a else Err err) ≡ Ok b → a ≡ b
if-ok true a b err is = cc
if-ok false a b err is = absurd (let no = is in cc)

-- ---- items in slices

-- the room of a slice stays as it is
pub stored-length : {A : Type 0} (all was : List A) → length (stored all was) ≡ length was
stored-length all was =
    let size = length-append (take (length was) all) (drop (length all) was) in
    let rest = length-drop (length all) was in
    elim (cases_lt (length all) (length was)) [
      | inl room ↦
          let first = ap length (take_all (length was) all (omega (arith, room))) in
          omega (arith, size, rest, first, room)
      | inr full ↦
          let first = length-take-le (length was) all full in
          omega (arith, size, rest, first, full)
    ]

-- all items, if there is room for them
pub stored-first : {A : Type 0} (all was : List A) → length all ≤ length was → take (length all) (stored all was) ≡ all
stored-first all was room =
    ap (λ xs. take (length all) (xs ++ drop (length all) was)) (take_all (length was) all room)
    ∙ take_at all (drop (length all) was) (length all) refl

if-same : {X : Type 0} (less : Bool) (few some same : X) → (less ≡ false → some ≡ same)
    → (if less then few else some) ≡ (if less then few else same)
if-same true few some same is = refl
if-same false few some same is = is refl

-- a test of the room, of the same room
pub room-same : {X : Type 0} {room now all : ℕ} (few : X) (some : X) {same : X} → now ≡ room → (all ≤ room → some ≡ same)
    → (if nat_lt now all then few else some) ≡ (if nat_lt room all then few else same)
room-same {room = room} {all = all} few some {same = same} count is =
    ap (λ n. if nat_lt n all then few else some) count
    ∙ if-same (nat_lt room all) few some same (λ no. is (ltb-false room all no))
