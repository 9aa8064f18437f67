-- In how many pieces bytes go.
use Rattle.std.specs.Prelude.{min}
use Rattle.std.proofs.Common.{◌≡◌, ℕ, zero, suc, ◌+◌, ◌-◌, ◌*◌, ◌/◌, ◌<◌, ◌≤◌, refl, ap, ◌∙◌, arith}
use Rattle.std.proofs.lemmas.Nat.{div-mul-add}
use Rattle.bitstream_order.specs.Moving.Pieces.{pieces}

-- k pieces of `most` bytes reach as far as the place `at` of `len` bytes
abbrev pub Reaches : (most k at len : ℕ) → Type 0
Reaches most k at len = (at < len → at ≡ k * most) × (at ≤ k * most) × (k * most < at + most)

reach-step : (most m n at len end : ℕ) → 1 ≤ most → n ≡ m + most → (at < len → at ≡ m) → at < len → end
    ≡ at + min most (len - at) → (end < len → end ≡ n) × (end ≤ n) × (n < end + most)
reach-step most m n at len end some is so less e = let here = so less in (λ h. omega arith, omega arith, omega arith)

pub reaches-none : (most len : ℕ) → 1 ≤ most → Reaches most 0 0 len
reaches-none most len some = (λ _. omega arith, omega arith, omega arith)

pub reaches-more : (most k at len end : ℕ) → 1 ≤ most → at < len → end ≡ at + min most (len - at)
    → Reaches most k at len → Reaches most (k + 1) end len
reaches-more most k at len end some less e h = reach-step most (k * most) ((k + 1) * most) at len end some (grind arith)
    h.0 less e

split_sum : (m k len most : ℕ) → m ≡ k * most → len ≤ m → m < len + most → (q : ℕ) × (q < most)
    × (len + (most - 1) ≡ k * most + q)
split_sum m k len most is low high = (len + (most - 1) - m, omega arith, omega arith)

pub pieces-all : (most queued k len at : ℕ) → (queued ≡ 0 → ⊥) → len ≤ at → at ≤ len → Reaches most k at len
    → pieces most queued len ≡ k
pieces-all most zero k len at off low high h = absurd (off refl)
pieces-all most (suc queued) k len at off low high h =
    let all : at ≡ len = omega arith in
    let q = split_sum (k * most) k len most refl (omega (arith, h.1, all)) (omega (arith, h.2, all)) in
    ap (λ n. n / most) q.2 ∙ div-mul-add k most q.0 q.1
