-- Masks, and sums of values that have no bits in common, over plain numbers.
use Rattle.std.specs.Prelude.{bit_or, bit_and}
use Rattle.std.proofs.Common.{◌≡◌, ℕ, ◌+◌, ◌-◌, ◌*◌, ◌/◌, ◌%◌, ◌^◌, ◌<◌, ◌≤◌, ap, ◌∙◌, arith}
use Rattle.std.proofs.lemmas.Nat.{and_mask, shr_split, or_shifted}
use Rattle.std.proofs.lemmas.Nat.Bits.{ones_shr}

-- all bits but the lowest n, shifted out
pub mask-is : (size n a r : ℕ) → n ≤ size → a ≡ 2 ^ size - 1 → r ≡ a / 2 ^ (size - n) → r ≡ 2 ^ n - 1
mask-is size n a r h e k =
    let le : size - n ≤ size = omega arith in
    let back : size - (size - n) ≡ n = omega arith in
    k ∙ rw e (ones_shr size (size - n) le ∙ ap (λ j. 2 ^ j - 1) back)

pub masked-is : (v n m r : ℕ) → m ≡ 2 ^ n - 1 → r ≡ bit_and v m → r ≡ v % 2 ^ n
masked-is v n m r e f = f ∙ ap (bit_and v) e ∙ and_mask v n

pub or-sum : (a b n : ℕ) → a % 2 ^ n ≡ 0 → b < 2 ^ n → bit_or a b ≡ a + b
or-sum a b n e small =
    let whole : a / 2 ^ n * 2 ^ n ≡ a = omega (arith, shr_split a n) in
    rw whole at (or_shifted (a / 2 ^ n) n b small)
