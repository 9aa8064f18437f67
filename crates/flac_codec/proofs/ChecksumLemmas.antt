-- A remainder by bytes, and by a table.
use Rattle.std.proofs.Common.{◌++◌, ◌==◌, ◌&&◌, ◌⊎◌, Bool, true, get_or, arith, inl, inr, ◌≡◌, ◌∙◌, ◌+◌, ◌-◌, ◌*◌, ◌/◌, ◌%◌, ◌^◌, ◌<◌, ◌≤◌, ℕ, zero, suc, List, [], ◌∷◌, refl, sym, ap, length, take}
use native.Mathlib.Nat.{mod-lt, pow-suc}
use Rattle.std.proofs.lemmas.Nat.{and_mask, xor_block, xor_lt}
use Rattle.std.proofs.lemmas.Bool.{and_parts, eqb-true, le-ltb, lt-ltb, cases_lt}
use lib.Bits.{bit_and, bit_xor, xor_step, xor_zero_r, differ}
use Rattle.std.proofs.lemmas.List.{take_more}
use Rattle.flac_codec.specs.declared.checksum.TheConstants.{REMAINDERS8, REMAINDERS16}
use Rattle.flac_codec.specs.Checksum.{crc16, crc8, times_power, times_x, with_byte, with_bytes}

-- ---- sums of two bits, digit by digit

differ-below : (x y : ℕ) → x < 2 → y < 2 → differ x y < 2
differ-below zero zero a b = omega arith
differ-below zero (suc zero) a b = omega arith
differ-below (suc zero) zero a b = omega arith
differ-below (suc zero) (suc zero) a b = omega arith
differ-below zero (suc (suc y)) a b = absurd (omega arith)
differ-below (suc (suc x)) y a b = absurd (omega arith)
differ-below (suc zero) (suc (suc y)) a b = absurd (omega arith)

differ-swap : (x y z : ℕ) → x < 2 → y < 2 → z < 2 → differ (differ x y) z ≡ differ (differ x z) y
differ-swap zero zero zero a b c = refl
differ-swap zero zero (suc zero) a b c = refl
differ-swap zero (suc zero) zero a b c = refl
differ-swap zero (suc zero) (suc zero) a b c = refl
differ-swap (suc zero) zero zero a b c = refl
differ-swap (suc zero) zero (suc zero) a b c = refl
differ-swap (suc zero) (suc zero) zero a b c = refl
differ-swap (suc zero) (suc zero) (suc zero) a b c = refl
differ-swap (suc (suc x)) y z a b c = absurd (omega arith)
differ-swap x (suc (suc y)) z a b c = absurd (omega arith)
differ-swap x y (suc (suc z)) a b c = absurd (omega arith)

module _ (a b : ℕ) where
  low : differ (a % 2) (b % 2) < 2
  low = differ-below (a % 2) (b % 2) (mod-lt a (omega arith)) (mod-lt b (omega arith))

  half : bit_xor a b / 2 ≡ bit_xor (a / 2) (b / 2)
  half = omega (arith, xor_step a b, low)

  rest : bit_xor a b % 2 ≡ differ (a % 2) (b % 2)
  rest = omega (arith, xor_step a b, low)

-- the order of what is added is free
pub xor_swap : (k a b c : ℕ) → a < 2 ^ k → b < 2 ^ k → c < 2 ^ k → bit_xor (bit_xor a b) c ≡ bit_xor (bit_xor a c) b
xor_swap zero zero zero zero x y z = refl
xor_swap zero (suc a) b c x y z = absurd (omega arith)
xor_swap zero a (suc b) c x y z = absurd (omega arith)
xor_swap zero a b (suc c) x y z = absurd (omega arith)
xor_swap (suc k) a b c x y z =
    let twice : 2 ^ suc k ≡ 2 ^ k * 2 = pow-suc 2 k in
    let i : a / 2 < 2 ^ k = omega arith in
    let j : b / 2 < 2 ^ k = omega arith in
    let l : c / 2 < 2 ^ k = omega arith in
    let higher : bit_xor (bit_xor a b / 2) (c / 2) ≡ bit_xor (bit_xor a c / 2) (b / 2) =
    rw (half a b, half a c) (xor_swap k (a / 2) (b / 2) (c / 2) i j l) in
    let lowest : differ (bit_xor a b % 2) (c % 2) ≡ differ (bit_xor a c % 2) (b % 2) =
    rw (rest a b, rest a c)
    (differ-swap (a % 2) (b % 2) (c % 2) (mod-lt a (omega arith)) (mod-lt b (omega arith)) (mod-lt c (omega arith))) in
    xor_step (bit_xor a b) c ∙ rw (higher, lowest) refl ∙ sym (xor_step (bit_xor a c) b)

-- ---- a remainder of 16 bits in two parts

twice : (a b : ℕ) → bit_xor (2 * a) (2 * b) ≡ 2 * bit_xor a b
twice a b =
    let both = xor_block 1 a b 0 0 (omega arith) (omega arith) in
    let one : 2 * a ≡ a * 2 ^ 1 + 0 = omega arith in
    let two : 2 * b ≡ b * 2 ^ 1 + 0 = omega arith in
    rw (one, two, both) (omega arith)

-- a sum with a number whose highest place is not taken
high_part : (a b : ℕ) → 2 ^ 15 ≤ a → a < 2 ^ 16 → b < 2 ^ 15 → bit_xor a b ≡ 2 ^ 15 + bit_xor (a - 2 ^ 15) b
high_part a b x y z =
    let parts = xor_block 15 1 0 (a - 2 ^ 15) b (omega arith) z in
    let one : 1 * 2 ^ 15 + (a - 2 ^ 15) ≡ a = omega arith in
    let two : 0 * 2 ^ 15 + b ≡ b = omega arith in
    let same = rw (one, two) at parts in
    same ∙ omega arith

module _ (polynomial : ℕ) (small : polynomial < 2 ^ 16) where
  -- a part with no bit in the highest place goes up by itself
  times_x-apart : (a b : ℕ) → a < 2 ^ 16 → b < 2 ^ 15
      → times_x 16 polynomial (bit_xor a b) ≡ bit_xor (times_x 16 polynomial a) (2 * b)
  times_x-apart a b x y = elim (cases_lt a (2 ^ 15)) [
    | inl less ↦
        let below : bit_xor a b < 2 ^ 15 = xor_lt 15 a b less y in
        rw (lt-ltb (bit_xor a b) (2 ^ 15) below, lt-ltb a (2 ^ 15) less) (sym (twice a b))
    | inr more ↦
        let r = a - 2 ^ 15 in
        let rest : bit_xor r b < 2 ^ 15 = xor_lt 15 r b (omega arith) y in
        let is = high_part a b more x y in
        let above : 2 ^ 15 ≤ bit_xor a b = omega arith in
        let sum : 2 * bit_xor a b % 2 ^ 16 ≡ bit_xor (2 * r) (2 * b) =
        let up : bit_xor (2 * r) (2 * b) ≡ 2 * bit_xor r b = twice r b in omega arith in
        let alone : 2 * a % 2 ^ 16 ≡ 2 * r = omega arith in
        rw (le-ltb (bit_xor a b) (2 ^ 15) above, le-ltb a (2 ^ 15) more, sum, alone)
        (xor_swap 16 (2 * r) (2 * b) polynomial (omega arith) (omega arith) small)
  ]

  times_x-fits : (a : ℕ) → a < 2 ^ 16 → times_x 16 polynomial a < 2 ^ 16
  times_x-fits a x = elim (cases_lt a (2 ^ 15)) [
    | inl less ↦ rw (lt-ltb a (2 ^ 15) less) (omega arith)
    | inr more ↦ rw (le-ltb a (2 ^ 15) more) (xor_lt 16 (2 * a % 2 ^ 16) polynomial (omega arith) small)
  ]

  pub times_power-fits : (k a : ℕ) → a < 2 ^ 16 → times_power 16 polynomial k a < 2 ^ 16
  unfolding times_power
  times_power-fits zero a x = x
  times_power-fits (suc k) a x = times_x-fits (times_power 16 polynomial k a) (times_power-fits k a x)

  pub times_power-apart : (k high low : ℕ) → high < 2 ^ 16 → low * 2 ^ k < 2 ^ 16
      → times_power 16 polynomial k (bit_xor high low) ≡ bit_xor (times_power 16 polynomial k high) (low * 2 ^ k)
  unfolding times_power
  times_power-apart zero high low x y = let one : low * 2 ^ 0 ≡ low = omega arith in rw one refl
  times_power-apart (suc k) high low x y =
      let more : 2 ^ suc k ≡ 2 ^ k * 2 = pow-suc 2 k in
      let next : low * 2 ^ suc k ≡ 2 * (low * 2 ^ k) = rw more (omega arith) in
      let few : low * 2 ^ k < 2 ^ 15 = omega arith in
      ap (times_x 16 polynomial) (times_power-apart k high low x (omega arith))
      ∙ times_x-apart (times_power 16 polynomial k high) (low * 2 ^ k) (times_power-fits k high x) few
      ∙ ap (bit_xor (times_x 16 polynomial (times_power 16 polynomial k high))) (sym next)

  -- one more byte: the table has the part of the highest eight bits
  pub with_byte-apart : (crc byte : ℕ) → crc < 2 ^ 16 → byte < 2 ^ 8
      → with_byte 16 polynomial crc byte
      ≡ bit_xor (times_power 16 polynomial 8 (bit_xor (crc / 2 ^ 8) byte * 2 ^ 8)) (crc % 2 ^ 8 * 2 ^ 8)
  with_byte-apart crc byte x y =
      let high = bit_xor (crc / 2 ^ 8) byte in
      let low = crc % 2 ^ 8 in
      let less : high < 2 ^ 8 = xor_lt 8 (crc / 2 ^ 8) byte (omega arith) y in
      let parts : bit_xor (crc / 2 ^ 8 * 2 ^ 8 + low) (byte * 2 ^ 8 + 0) ≡ high * 2 ^ 8 + bit_xor low 0 =
      xor_block 8 (crc / 2 ^ 8) byte low 0 (mod-lt crc (omega arith)) (omega arith) in
      let apart : bit_xor (high * 2 ^ 8 + 0) (0 * 2 ^ 8 + low) ≡ bit_xor high 0 * 2 ^ 8 + low =
      xor_block 8 high 0 0 low (omega arith) (mod-lt crc (omega arith)) in
      let whole : crc / 2 ^ 8 * 2 ^ 8 + low ≡ crc = omega arith in
      let none : byte * 2 ^ 8 + 0 ≡ byte * 2 ^ 8 = omega arith in
      let alone : high * 2 ^ 8 + 0 ≡ high * 2 ^ 8 = omega arith in
      let below : 0 * 2 ^ 8 + low ≡ low = omega arith in
      let left = rw (whole, none, xor_zero_r low) at parts in
      let right = rw (alone, below, xor_zero_r high) at apart in
      let sum : bit_xor crc (byte * 2 ^ 8) ≡ bit_xor (high * 2 ^ 8) low = left ∙ sym right in
      ap (times_power 16 polynomial 8) sum ∙ times_power-apart 8 (high * 2 ^ 8) low (omega arith) (omega arith)

-- ---- the tables

abbrev all_below : (ℕ → Bool) → ℕ → Bool
all_below test zero = true
all_below test (suc k) = test k && all_below test k

eq_or_below : (k n : ℕ) → k ≤ n → (k ≡ n) ⊎ (k < n)
eq_or_below k n le = elim (cases_lt k n) [ inl less ↦ inr less | inr more ↦ inl (omega arith) ]

below : (test : ℕ → Bool) (n k : ℕ) → all_below test n ≡ true → k < n → test k ≡ true
below test zero k all less = absurd (omega arith)
below test (suc n) k all less = elim (eq_or_below k n (omega arith)) [
  | inl is ↦ rw is (and_parts (test n) (all_below test n) all).0
  | inr few ↦ below test n k (and_parts (test n) (all_below test n) all).1 few
]

is_remainder8 : ℕ → Bool
is_remainder8 k = get_or REMAINDERS8 k 0 == times_power 8 0x07 8 k

is_remainder16 : ℕ → Bool
is_remainder16 k = get_or REMAINDERS16 k 0 == times_power 16 0x8005 8 (k * 2 ^ 8)

all8 : all_below is_remainder8 256 ≡ true
unfolding is_remainder8 times_power
all8 = refl

all16 : all_below is_remainder16 256 ≡ true
unfolding is_remainder16 times_power
all16 = refl

pub remainder8-is : (k : ℕ) → k < 256 → get_or REMAINDERS8 k 0 ≡ times_power 8 0x07 8 k
unfolding is_remainder8
remainder8-is k less = eqb-true _ _ (below is_remainder8 256 k all8 less)

pub remainder16-is : (k : ℕ) → k < 256 → get_or REMAINDERS16 k 0 ≡ times_power 16 0x8005 8 (k * 2 ^ 8)
unfolding is_remainder16
remainder16-is k less = eqb-true _ _ (below is_remainder16 256 k all16 less)

-- ---- the steps of the loops

module _ (n polynomial : ℕ) where
  with_bytes-append : (crc : ℕ) (xs : List ℕ) (x : ℕ) → with_bytes n polynomial crc (xs ++ x ∷ [])
      ≡ with_byte n polynomial (with_bytes n polynomial crc xs) x
  unfolding with_bytes
  with_bytes-append crc [] x = refl
  with_bytes-append crc (y ∷ ys) x = with_bytes-append (with_byte n polynomial crc y) ys x

  pub with_bytes-push : (crc : ℕ) (xs : List ℕ) (i d : ℕ) → i < length xs
      → with_bytes n polynomial crc (take (i + 1) xs)
      ≡ with_byte n polynomial (with_bytes n polynomial crc (take i xs)) (get_or xs i d)
  with_bytes-push crc xs i d less = rw (take_more xs i d less) (with_bytes-append crc (take i xs) (get_or xs i d))

pub crc8-push : (crc next : ℕ) (xs : List ℕ) (i d : ℕ) → i < length xs → crc ≡ crc8 (take i xs)
    → next ≡ times_power 8 0x07 8 (bit_xor crc (get_or xs i d)) → next ≡ crc8 (take (i + 1) xs)
crc8-push crc next xs i d less so_far is =
    let x = get_or xs i d in
    let same : x * 2 ^ 0 ≡ x = omega arith in
    is ∙ ap (λ c. times_power 8 0x07 8 (bit_xor c x)) so_far
    ∙ ap (λ y. times_power 8 0x07 8 (bit_xor (crc8 (take i xs)) y)) (sym same)
    ∙ sym (with_bytes-push 8 0x07 0 xs i d less)

pub crc16-push : (crc next part : ℕ) (xs : List ℕ) (i d : ℕ) → i < length xs → crc ≡ crc16 (take i xs) → crc < 2 ^ 16
    → get_or xs i d < 2 ^ 8 → part ≡ times_power 16 0x8005 8 (bit_xor (crc / 2 ^ 8) (get_or xs i d) * 2 ^ 8)
    → next ≡ bit_xor part (bit_and crc 255 * 256 % 65536) → next ≡ crc16 (take (i + 1) xs)
crc16-push crc next part xs i d less so_far fits small high is =
    let mask : bit_and crc 255 ≡ crc % 2 ^ 8 = and_mask crc 8 in
    let low : bit_and crc 255 * 256 % 65536 ≡ crc % 2 ^ 8 * 2 ^ 8 = omega arith in
    is ∙ ap (λ p. bit_xor p (bit_and crc 255 * 256 % 65536)) high
    ∙ ap (bit_xor (times_power 16 0x8005 8 (bit_xor (crc / 2 ^ 8) (get_or xs i d) * 2 ^ 8))) low
    ∙ sym (with_byte-apart 0x8005 (omega arith) crc (get_or xs i d) fits small)
    ∙ ap (λ c. with_byte 16 0x8005 c (get_or xs i d)) so_far
    ∙ sym (with_bytes-push 16 0x8005 0 xs i d less)
