-- The numbers of a group: its digits are above the digits of the groups before.
use Rattle.std.specs.Prelude.{bit_or}
use Rattle.std.proofs.Common.{◌≡◌, ◌≢◌, true, false, ℕ, ◌+◌, ◌-◌, ◌*◌, ◌/◌, ◌%◌, ◌^◌, ◌<◌, ◌≤◌, inl, inr, sym, ap, ◌∙◌, arith}
use Rattle.std.proofs.Math.Nat.{mod-eq_of_lt, mod-lt, add-mod_right, mul-le-mul_left, mul-div_left}
use Rattle.std.proofs.Math.Pow.{pow_mono}
use Rattle.std.proofs.lemmas.Bool.{cases_lt}
use Rattle.std.proofs.lemmas.Nat.{pow-add, pow_pos, or_comm, or_shifted, shr_split}
use Rattle.bitstream_number.proofs.WordLemmas.{half}
use Rattle.bitstream_order.proofs.Moving.SignLemmas.{half_is}

pub apart : true ≢ false
apart e = cc

-- ---- digits that were shifted up

-- they come back, so none was lost
pub placed_fits : (size shift digits placed : ℕ) → placed ≡ digits * 2 ^ shift % 2 ^ size → placed / 2 ^ shift ≡ digits
    → 2 ^ shift * digits < 2 ^ size
placed_fits size shift digits placed is back =
    omega (arith, is, mod-lt (digits * 2 ^ shift) (pow_pos size), shr_split placed shift, ap (λ d. d * 2 ^ shift) back)

-- they don't, so some were
pub placed_past : (size shift digits placed : ℕ) → placed ≡ digits * 2 ^ shift % 2 ^ size
    → (placed / 2 ^ shift ≡ digits → ⊥) → 2 ^ size ≤ 2 ^ shift * digits
placed_past size shift digits placed is lost =
    elim (cases_lt (digits * 2 ^ shift) (2 ^ size)) [
      | inl fits ↦ absurd (lost (ap (λ k. k / 2 ^ shift) (is ∙ mod-eq_of_lt fits)
          ∙ mul-div_left digits (pow_pos shift)))
      | inr past ↦ omega (arith, past)
    ]

pub placed_sum : (size shift value digits placed next : ℕ) → value < 2 ^ shift → 2 ^ shift * digits < 2 ^ size → placed
    ≡ digits * 2 ^ shift % 2 ^ size → next ≡ bit_or value placed → next ≡ value + 2 ^ shift * digits
placed_sum size shift value digits placed next small fits is joined =
    let whole : digits * 2 ^ shift < 2 ^ size = omega (arith, fits) in
    joined ∙ ap (bit_or value) (is ∙ mod-eq_of_lt whole) ∙ or_comm value (digits * 2 ^ shift)
    ∙ or_shifted digits shift value small ∙ omega arith

pub sum_fits : (size shift value digits : ℕ) → shift ≤ size → value < 2 ^ shift → 2 ^ shift * digits < 2 ^ size
    → value + 2 ^ shift * digits < 2 ^ size
sum_fits size shift value digits le small fits =
    let parts : shift + (size - shift) ≡ size = omega arith in
    let whole : 2 ^ shift * 2 ^ (size - shift) ≡ 2 ^ size = sym (pow-add 2 shift (size - shift))
    ∙ ap (λ n. 2 ^ n) parts in
    elim (cases_lt digits (2 ^ (size - shift))) [
      | inl less ↦ let more : digits + 1 ≤ 2 ^ (size - shift) = omega arith in
          omega (arith, mul-le-mul_left (2 ^ shift) more, whole)
      | inr past ↦ absurd (omega (arith, mul-le-mul_left (2 ^ shift) past, whole))
    ]

pub stays_below : (shift m value digits : ℕ) → digits < 2 ^ m → value < 2 ^ shift
    → value + 2 ^ shift * digits < 2 ^ (shift + m)
stays_below shift m value digits small le =
    let some : digits + 1 ≤ 2 ^ m = omega arith in
    omega (arith, pow-add 2 shift m, mul-le-mul_left (2 ^ shift) some)

-- after digits that go past the end no group begins
pub none_behind : (size shift m digits : ℕ) → digits < 2 ^ m → 2 ^ size ≤ 2 ^ shift * digits → size ≤ shift + m
none_behind size shift m digits small past =
    elim (cases_lt (shift + m) size) [
      | inl less ↦
          let some : digits + 1 ≤ 2 ^ m = omega arith in
          absurd (omega (
            arith,
            pow-add 2 shift m,
            mul-le-mul_left (2 ^ shift) some,
            pow_mono {i = shift + m} {j = size} (omega arith),
            pow_pos shift,
          ))
      | inr ok ↦ ok
    ]

-- ---- the digits of a group

pub last_group : (m group digits : ℕ) → digits ≡ group % 2 ^ m → group ≡ digits → group < 2 ^ m
last_group m group digits is last = omega (arith, is, last, mod-lt group (pow_pos m))

pub group_more : (field m group digits : ℕ) → m ≡ field - 1 → 0 < field → digits ≡ group % 2 ^ m → group < 2 ^ field
    → (group ≡ digits → ⊥) → (2 ^ (field - 1) ≤ group) × (group - 2 ^ (field - 1) ≡ digits)
group_more field m group digits payload some is small more =
    let low : digits ≡ group % 2 ^ (field - 1) = is ∙ ap (λ k. group % 2 ^ k) payload in
    elim (cases_lt group (2 ^ (field - 1))) [
      | inl last ↦ absurd (more (sym (mod-eq_of_lt last) ∙ sym low))
      | inr large ↦
          let parts : group ≡ (group - 2 ^ (field - 1)) + 2 ^ (field - 1) = omega arith in
          let rest : group - 2 ^ (field - 1) < 2 ^ (field - 1) = omega (arith, small, half field some) in (
            large,
            sym (low ∙ ap (λ k. k % 2 ^ (field - 1)) parts
                ∙ add-mod_right (group - 2 ^ (field - 1)) (2 ^ (field - 1)) ∙ mod-eq_of_lt rest),
          )
    ]

-- the mask of the m lowest digits, from the digit above them
pub mask_below : (m size first second s r : ℕ) → m < size → first ≡ 1 → second ≡ 1 → s ≡ first * 2 ^ m % 2 ^ size → r
    ≡ s - second → r ≡ 2 ^ m - 1
mask_below m size first second s r less one unit shifted is = is
    ∙ omega (arith, half_is first m size s one less shifted, unit)
