-- Bits that are all 0, read in parts.
use Rattle.std.specs.Prelude.{Bool, true, false, not, ◌==◌, ◌&&◌, ◌%◌, replicate}
use Rattle.std.proofs.Common.{◌≡◌, ℕ, ◌+◌, ◌-◌, ◌≤◌, zero, suc, List, [], ◌∷◌, ◌++◌, length, Result, Ok, Err, inl, inr, refl, sym, ap, ◌∙◌, subst, arith, eq-eqb}
use Rattle.std.proofs.Math.Nat.{mod-eq_of_lt}
use Rattle.std.proofs.lemmas.Bool.{cases_lt, ne_eqb}
use Rattle.std.proofs.lemmas.Nat.{pow_pos}
use Rattle.bitstream_io.specs.Alignment.{to_boundary}
use Rattle.bitstream_io.specs.Codec.{Decoder, Done, and_then, pure, consume}
use Rattle.bitstream_io.specs.Error.{Error}
use Rattle.bitstream_io.specs.ReadTable.{bit_decoder, first_bit, unsigned_decoder}
use Rattle.bitstream_io.specs.Reads.{BitSource, ReaderState, Reads, had_failed, was_done, was_refused, memory_refused}
use Rattle.bitstream_io.specs.Word.{Order, number, word}
use Rattle.bitstream_io.proofs.BytesWritten.{word-zeros}
use Rattle.bitstream_io.proofs.CodecLemmas.{Same, Same-trans, and_then_takes, map_takes, word_prefix-some}
use Rattle.bitstream_io.proofs.LawLemmas.{Same-and_then}
use Rattle.bitstream_io.proofs.ReadsLemmas.{Begun-nil, Reads-behind, Reads-and_then-err, Reads-and_then-ok, Reads-pure, Reads-nothing, Reads-same, none_needed}
use Rattle.bitstream_io.proofs.TableLemmas.{unsigned-takes}
use Rattle.bitstream_io.proofs.WordLemmas.{number-word, word-number}
use Rattle.bitfields_core.specs.Repacking.{are_zeros, boundary_decoder, zeros_decoder}

-- ---- which bits are all 0

pub are_zeros-append : (u v : List Bool) → are_zeros (u ++ v) ≡ (are_zeros u && are_zeros v)
are_zeros-append [] v = refl
are_zeros-append (true ∷ u) v = refl
are_zeros-append (false ∷ u) v = are_zeros-append u v

pub are_zeros-replicate : (n : ℕ) → are_zeros (replicate n false) ≡ true
are_zeros-replicate zero = refl
are_zeros-replicate (suc n) = are_zeros-replicate n

pub are_zeros-only : (w : List Bool) → are_zeros w ≡ true → w ≡ replicate (length w) false
are_zeros-only [] h = refl
are_zeros-only (true ∷ w) h = absurd (cc)
are_zeros-only (false ∷ w) h = ap (λ (u : List Bool). false ∷ u) (are_zeros-only w h)

-- a number of bits that are all 0
number-zeros : (o : Order) (n : ℕ) → number o (replicate n false) ≡ 0
number-zeros o n = ap (number o) (sym (word-zeros o n)) ∙ number-word o n 0 ∙ mod-eq_of_lt (pow_pos n)

zeros_by : (o : Order) (w : List Bool) (z : Bool) → are_zeros w ≡ z → (number o w == 0) ≡ z
zeros_by o w true h = eq-eqb (number o w) 0 (ap (number o) (are_zeros-only w h) ∙ number-zeros o (length w))
zeros_by o w false h = ne_eqb (number o w) 0 (λ is.
    let same : w ≡ replicate (length w) false = sym (word-number o w) ∙ ap (word o (length w)) is
    ∙ word-zeros o (length w) in
    let all : are_zeros w ≡ true = ap are_zeros same ∙ are_zeros-replicate (length w) in
    absurd (cc))

-- bits are all 0 if and only if their number is 0
pub zeros_number : (o : Order) (w : List Bool) → (number o w == 0) ≡ are_zeros w
zeros_number o w = zeros_by o w (are_zeros w) refl

-- ---- their read calls

pub zeros-number : (o : Order) (size n : ℕ) → n ≤ size
    → Same (and_then (unsigned_decoder o size n) (λ v. pure (v == 0))) (zeros_decoder n)
unfolding zeros_decoder
zeros-number o size n le = rw (unsigned-takes o size n le)
    (map_takes n (number o) (λ v. v == 0) (λ w. Ok (are_zeros w)) (λ w _. ap Ok (sym (zeros_number o w))))

-- some bits and then others
zeros-split : (a b : ℕ) → Same (and_then (zeros_decoder a) (λ x. and_then (zeros_decoder b) (λ y. pure (x && y))))
    (zeros_decoder (a + b))
unfolding zeros_decoder
zeros-split a b =
    Same-trans
    (Same-and_then (consume a (λ w. Ok (are_zeros w))) (λ x. and_then (consume b (λ w. Ok (are_zeros w))) (λ y. pure (x && y)))
    (λ x. consume b (λ w. Ok (x && are_zeros w)))
    (λ x. map_takes b are_zeros (λ y. x && y) (λ w. Ok (x && are_zeros w)) (λ w _. refl)))
    (and_then_takes a b are_zeros (λ x w. Ok (x && are_zeros w)) (λ w. Ok (are_zeros w))
    (λ u v lu lv. ap Ok (are_zeros-append u v)))

-- a bit and then others
one_bit : (u v : List Bool) → length u ≡ 1 → are_zeros (u ++ v) ≡ (not (first_bit u) && are_zeros v)
one_bit [] v e = absurd (cc)
one_bit (true ∷ []) v e = refl
one_bit (false ∷ []) v e = refl
one_bit (c ∷ d ∷ u) v e = absurd (omega (arith, e))

bit-split : (n : ℕ)
    → Same (and_then bit_decoder (λ b. and_then (zeros_decoder n) (λ z. pure (not b && z)))) (zeros_decoder (1 + n))
unfolding zeros_decoder
bit-split n =
    Same-trans
    (Same-and_then bit_decoder (λ b. and_then (consume n (λ w. Ok (are_zeros w))) (λ z. pure (not b && z)))
    (λ b. consume n (λ w. Ok (not b && are_zeros w)))
    (λ b. map_takes n are_zeros (λ z. not b && z) (λ w. Ok (not b && are_zeros w)) (λ w _. refl)))
    (and_then_takes 1 n first_bit (λ b w. Ok (not b && are_zeros w)) (λ w. Ok (are_zeros w))
    (λ u v lu lv. ap Ok (one_bit u v lu)))

-- ---- reads of them

bit_size : (p : ℕ) (b : Bool) (w : List Bool)
    → ((more : List Bool) → bit_decoder.reads p (w ++ more) ≡ Done (length w) (Ok b)) → length w ≡ 1
bit_size p b [] h = let none = h [] in absurd (cc)
bit_size p b (c ∷ w) h =
    let first : bit_decoder.reads p (c ∷ (w ++ [])) ≡ Done 1 (Ok c) =
    word_prefix-some 1 (λ u. Ok (first_bit u)) (c ∷ []) (w ++ []) refl in
    let same : Done 1 (Ok c) ≡ Done (length (c ∷ w)) (Ok b) = sym first ∙ h [] in
    let size : 1 ≡ length (c ∷ w) = cc same in
    sym size

-- a sound reader that is not at a boundary
off_by : (s : ReaderState) → s.failed ≡ false → ((s.failed ≡ false) × (s.taken % 8 ≡ 0) → ⊥)
    → 1 ≤ to_boundary s.taken
off_by s fine other =
    elim (cases_lt (s.taken % 8) 1) [
      | inl none ↦ (let at : s.taken % 8 ≡ 0 = omega (arith, none) in absurd (other (fine, at)))
      | inr some ↦ omega (arith, some)
    ]

module _ {R : Type 0} {K : BitSource R} where
  -- a bit was taken
  bit_taken : {b : Bool} {s t : R} → Reads K bit_decoder s (Ok b) t → (K.state t).taken ≡ (K.state s).taken + 1
  bit_taken (had_failed h) = absurd (let a = h.answer in cc)
  bit_taken {b = b} {s = s} (was_done h) = h.taken ∙ ap (λ (n : ℕ). (K.state s).taken + n)
      (bit_size (K.state s).taken b h.word h.decides)
  bit_taken (was_refused h) = absurd (let a = h.answer in cc)
  bit_taken (memory_refused grows h) = absurd (cc)

  -- a call with the same prefix at this place
  Reads-at : {A : Type 0} {d e : Decoder A} {r : Result A Error} {s t : R}
      → ((b : List Bool) → d.reads (K.state s).taken b ≡ e.reads (K.state s).taken b) → d.on_failed ≡ e.on_failed
      → Reads K d s r t → Reads K e s r t
  Reads-at {d = d} {e = e} {r = r} {s = s} {t = t} same failed h =
      Reads-behind e d [] r r s s t (Begun-nil K s)
      (record {
        needs = λ prefix b back is. absurd (none_needed prefix b back is);
        short = λ more short. sym (same more) ∙ short;
      }) (λ broken q. q ∙ failed) (λ y q. q) refl (λ v decides more. sym (same (v ++ more)) ∙ decides more) h

  -- up to a boundary
  pub boundary : {r : Result Bool Error} {s t : R} → Reads K (zeros_decoder (to_boundary (K.state s).taken)) s r t
      → Reads K boundary_decoder s r t
  unfolding zeros_decoder boundary_decoder
  boundary h = Reads-at (λ b. refl) refl h

  -- at a boundary
  pub at_boundary : {s : R} → (K.state s).failed ≡ false → (K.state s).taken % 8 ≡ 0
      → Reads K (zeros_decoder (to_boundary (K.state s).taken)) s (Ok true) s
  unfolding zeros_decoder
  at_boundary {s = s} fine at =
      let none : 0 ≡ to_boundary (K.state s).taken = omega (arith, at) in
      subst (λ (n : ℕ). Reads K (zeros_decoder n) s (Ok true) s) none
      (Reads-nothing (zeros_decoder 0) (Ok true) s fine refl
      (λ more. word_prefix-some 0 (λ w. Ok (are_zeros w)) [] more refl))

  -- a reader that is not at a boundary or has failed, and gave a bit
  pub off_boundary : {b : Bool} {s t : R}
      → (((K.state s).failed ≡ false) × ((K.state s).taken % 8 ≡ 0) → ⊥) → Reads K bit_decoder s (Ok b) t
      → 1 ≤ to_boundary (K.state s).taken
  off_boundary other (had_failed h) = absurd (let a = h.answer in cc)
  off_boundary {s = s} other (was_done h) = off_by (K.state s) h.fine other
  off_boundary other (was_refused h) = absurd (let a = h.answer in cc)
  off_boundary other (memory_refused grows h) = absurd (cc)

  -- the bit off a boundary was refused
  stopped_bit : {x : Error} {s t : R} → 1 ≤ to_boundary (K.state s).taken → Reads K bit_decoder s (Err x) t
      → Reads K (zeros_decoder (to_boundary (K.state s).taken)) s (Err x) t
  stopped_bit {x = x} {s = s} {t = t} some h =
      let m = to_boundary (K.state s).taken - 1 in
      let size : 1 + m ≡ to_boundary (K.state s).taken = omega (arith, some) in
      subst (λ (n : ℕ). Reads K (zeros_decoder n) s (Err x) t) size
      (Reads-same (bit-split m) (Reads-and_then-err _ (λ c. and_then (zeros_decoder m) (λ y. pure (not c && y))) h))

  -- a bit off a boundary, and the others up to it
  pub boundary_bit : {b z : Bool} {s t u : R} → 1 ≤ to_boundary (K.state s).taken → Reads K bit_decoder s (Ok b) t
      → Reads K (zeros_decoder (to_boundary (K.state t).taken)) t (Ok z) u
      → Reads K (zeros_decoder (to_boundary (K.state s).taken)) s (Ok (not b && z)) u
  boundary_bit {b = b} {z = z} {s = s} {t = t} {u = u} some h k =
      let m = to_boundary (K.state t).taken in
      let size : 1 + m ≡ to_boundary (K.state s).taken = omega (arith, some, bit_taken h) in
      subst (λ (n : ℕ). Reads K (zeros_decoder n) s (Ok (not b && z)) u) size
      (Reads-same (bit-split m) (Reads-and_then-ok _ (λ c. and_then (zeros_decoder m) (λ y. pure (not c && y))) h
      (Reads-and_then-ok _ (λ y. pure (not b && y)) k (Reads-pure (not b && z) u))))

  pub boundary_bit_err : {x : Error} {s t : R}
      → (((K.state s).failed ≡ false) × ((K.state s).taken % 8 ≡ 0) → ⊥) → Reads K bit_decoder s (Err x) t
      → Reads K (zeros_decoder (to_boundary (K.state s).taken)) s (Err x) t
  unfolding zeros_decoder
  boundary_bit_err other (had_failed h) = had_failed (record { failed = h.failed; answer = h.answer; same = h.same })
  boundary_bit_err {s = s} other (was_done h) = stopped_bit (off_by (K.state s) h.fine other) (was_done h)
  boundary_bit_err {s = s} other (was_refused h) = stopped_bit (off_by (K.state s) h.fine other) (was_refused h)
  boundary_bit_err other (memory_refused grows h) = absurd (cc)

  pub boundary_rest_err : {b : Bool} {x : Error} {s t u : R} → 1 ≤ to_boundary (K.state s).taken
      → Reads K bit_decoder s (Ok b) t → Reads K (zeros_decoder (to_boundary (K.state t).taken)) t (Err x) u
      → Reads K (zeros_decoder (to_boundary (K.state s).taken)) s (Err x) u
  boundary_rest_err {b = b} {x = x} {s = s} {t = t} {u = u} some h k =
      let m = to_boundary (K.state t).taken in
      let size : 1 + m ≡ to_boundary (K.state s).taken = omega (arith, some, bit_taken h) in
      subst (λ (n : ℕ). Reads K (zeros_decoder n) s (Err x) u) size
      (Reads-same (bit-split m) (Reads-and_then-ok _ (λ c. and_then (zeros_decoder m) (λ y. pure (not c && y))) h
      (Reads-and_then-err _ (λ y. pure (not b && y)) k)))

  -- some bits, as a number
  module _ (o : Order) {size n : ℕ} (le : n ≤ size) where
    pub zeros : {v : ℕ} {s t : R} → Reads K (unsigned_decoder o size n) s (Ok v) t
        → Reads K (zeros_decoder n) s (Ok (v == 0)) t
    zeros {v = v} {t = t} h =
        Reads-same (zeros-number o size n le) (Reads-and_then-ok _ (λ u. pure (u == 0)) h (Reads-pure (v == 0) t))

    pub zeros_err : {x : Error} {s t : R} → Reads K (unsigned_decoder o size n) s (Err x) t
        → Reads K (zeros_decoder n) s (Err x) t
    zeros_err h = Reads-same (zeros-number o size n le) (Reads-and_then-err _ (λ u. pure (u == 0)) h)

  -- some bits, and then others
  module _ (m n : ℕ) {k : ℕ} (sum : m + n ≡ k) where
    split : {r : Result Bool Error} {s t : R}
        → Reads K (and_then (zeros_decoder m) (λ z. and_then (zeros_decoder n) (λ w. pure (z && w)))) s r t
        → Reads K (zeros_decoder k) s r t
    split {r = r} {s = s} {t = t} h =
        subst (λ (size : ℕ). Reads K (zeros_decoder size) s r t) sum (Reads-same (zeros-split m n) h)

    pub zeros_more : {x y : Bool} {s t u : R} → Reads K (zeros_decoder m) s (Ok x) t → Reads K (zeros_decoder n) t (Ok y) u
        → Reads K (zeros_decoder k) s (Ok (x && y)) u
    zeros_more {x = x} {y = y} {u = u} h l =
        split (Reads-and_then-ok _ (λ z. and_then (zeros_decoder n) (λ w. pure (z && w))) h
        (Reads-and_then-ok _ (λ w. pure (x && w)) l (Reads-pure (x && y) u)))

    pub zeros_prefix_err : {x : Error} {s t : R} → Reads K (zeros_decoder m) s (Err x) t
        → Reads K (zeros_decoder k) s (Err x) t
    zeros_prefix_err h = split (Reads-and_then-err _ (λ z. and_then (zeros_decoder n) (λ w. pure (z && w))) h)

    pub zeros_rest_err : {x : Bool} {e : Error} {s t u : R} → Reads K (zeros_decoder m) s (Ok x) t
        → Reads K (zeros_decoder n) t (Err e) u → Reads K (zeros_decoder k) s (Err e) u
    zeros_rest_err {x = x} h l =
        split (Reads-and_then-ok _ (λ z. and_then (zeros_decoder n) (λ w. pure (z && w))) h
        (Reads-and_then-err _ (λ w. pure (x && w)) l))
