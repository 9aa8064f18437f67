-- The signed numbers that are computed, what goes back, and how long it is.
use Rattle.std.proofs.Common.{◌+ℤ◌, ◌-ℤ◌, to_z, of_z, w32, ℤ, zero, suc, pos, negsuc, ◌*◌, ◌/◌, ◌%◌, true, false, length, length-append, subst, sym}
use Rattle.std.specs.Prelude.{unsigned_abs, neg_ℤ, replicate}
use Rattle.std.proofs.lemmas.Bool.{eq-eqb, le-leb, lt-leb, ne_eqb}
use Rattle.std.proofs.lemmas.Int.{ints, to_z-of_z}
use Rattle.std.proofs.lemmas.List.{length-replicate}
use Rattle.bitstream_io.specs.Callers.{Encoder}
use Rattle.bitstream_io.specs.Unary.{unary}
use Rattle.bitstream_io.proofs.CallerLemmas.{◌≡◌, ◌∙◌, ℕ, ◌+◌, ◌-◌, ◌^◌, ◌<◌, List, [], ◌∷◌, Order, RoundTrip, Packs, ap, arith, at_most-back, computed-back, packs-is, packs-more, packs-none, last-back, refl, top, unary-back, unary-written, unsigned-written, var-back}
use Rattle.bitstream_io.specs.Golomb.{place_of, se_decoder, se_size, se_writes, signed_at, ue_decoder, ue_size, ue_word, ue_writes, zeros_of}

-- the writes of a number that has an encoding
pub has_word : (o : Order) (v : ℕ) → v < 2 ^ 32 - 1 → ue_writes o v ≡ ue_word o v
has_word o v small = rw (lt-leb (2 ^ 32 - 1) v small) refl

pub ue-back : (o : Order) (v : ℕ) → v < 2 ^ 32 - 1 → RoundTrip (ue_decoder o) (ue_writes o v) v
ue-back o v small =
    let n = zeros_of v in
    let t = top 32 (v + 1) (omega arith) (omega arith) in
    let same : 2 ^ n - 1 + (v + 1 - 2 ^ n) ≡ v = omega arith in
    let word : RoundTrip (ue_decoder o) (ue_word o v) v =
    unary-back _ v true n _ (omega arith) (at_most-back _ _ _ v n 31 (omega arith)
    (var-back o n [] v 32 _ _ (omega arith) t.rest (computed-back _ v same))) in
    subst (λ (ws : List Encoder). RoundTrip (ue_decoder o) ws v) (sym (has_word o v small)) word

-- and they are accepted, and have so many bits
pub ue-packs : (o : Order) (v : ℕ) → v < 2 ^ 32 - 1 → Packs (ue_writes o v) (ue_size v)
ue-packs o v small =
    let n = zeros_of v in
    let t = top 32 (v + 1) (omega arith) (omega arith) in
    let zeros : length (unary true n) ≡ n + 1 = length-append (replicate n false) (true ∷ [])
    ∙ (let long = length-replicate n false in omega (arith, long)) in
    let rest = unsigned-written o 32 n (v + 1 - 2 ^ n) (le-leb n 32 (omega arith)) t.rest in
    let word = packs-is (packs-more (unary-written true n) (packs-more rest packs-none)) (omega (arith, zeros)) in
    subst (λ (ws : List Encoder). Packs ws (ue_size v)) (sym (has_word o v small)) word

signed_at-place_of : (x : ℤ) → signed_at (place_of x) ≡ x
signed_at-place_of (pos zero) = refl
signed_at-place_of (pos (suc n)) =
    let half : (2 * suc n - 1) / 2 + 1 ≡ suc n = omega arith in
    rw (eq-eqb ((2 * suc n - 1) % 2) 1 (omega arith)) (ap pos half)
signed_at-place_of (negsuc n) =
    let half : 2 * (n + 1) / 2 ≡ suc n = omega arith in
    rw (ne_eqb (2 * (n + 1) % 2) 1 (λ e. omega arith)) (ap (λ (k : ℕ). neg_ℤ (pos k)) half)

-- the numbers at odd places, and at even ones
pub at_odd : (p : ℕ) → p < 2 ^ 32 - 1 → p % 2 ≡ 1
    → to_z w32 (of_z w32 (to_z w32 (p / 2) +ℤ pos 1)) ≡ signed_at p
at_odd p small odd = rw (eq-eqb (p % 2) 1 odd) (grind (arith, ints, to_z-of_z))

pub at_even : (p : ℕ) → p < 2 ^ 32 - 1 → ¬ (p % 2 ≡ 1)
    → to_z w32 (of_z w32 (pos 0 -ℤ to_z w32 (p / 2))) ≡ signed_at p
at_even p small even = rw (ne_eqb (p % 2) 1 even) (grind (arith, ints, to_z-of_z))

place_of-fits : (x : ℤ) → unsigned_abs x < 2 ^ 31 → place_of x < 2 ^ 32 - 1
place_of-fits (pos n) small = omega arith
place_of-fits (negsuc n) small = omega arith

pub se-back : (o : Order) (x : ℤ) → unsigned_abs x < 2 ^ 31 → RoundTrip (se_decoder o) (se_writes o x) x
se-back o x small =
    subst (λ (y : ℤ). RoundTrip (se_decoder o) (se_writes o x) y) (signed_at-place_of x)
    (last-back (ue_decoder o) signed_at (se_writes o x) (place_of x) (ue-back o (place_of x) (place_of-fits x small)).back)

pub se-packs : (o : Order) (x : ℤ) → unsigned_abs x < 2 ^ 31 → Packs (se_writes o x) (se_size x)
se-packs o x small = ue-packs o (place_of x) (place_of-fits x small)
