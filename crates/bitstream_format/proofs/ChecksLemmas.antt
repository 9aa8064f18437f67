-- Checksums: after more bytes, that they fit their bits, and the steps of the loops in code.
use Rattle.std.proofs.Common.{add-one, ◌≡◌, ◌∙◌, ℕ, zero, suc, ◌+◌, ◌-◌, ◌*◌, ◌/◌, ◌%◌, ◌^◌, ◌<◌, ◌≤◌, ◌==◌, Bool, true, false, List, [], ◌∷◌, ◌++◌, length, take, get_or, inl, inr, refl, sym, ap, subst, arith, length-append}
use Rattle.std.specs.Prelude.{if◌then◌else◌, min, nat_lt, bit_xor}
use Rattle.std.proofs.lemmas.List.{length-take-le, take_more}
use Rattle.std.proofs.lemmas.Nat.{xor_lt}
use Rattle.std.proofs.Math.Nat.{mul-le-mul_right}
use Rattle.std.proofs.lemmas.Bool.{cases_lt, eq-eqb, ne_eqb, lt-ltb, le-ltb}
use Rattle.bitstream_io.specs.Callers.{Decoder, Encoder}
use Rattle.bitstream_io.proofs.CallerLemmas.{RoundTrip}
use Rattle.bitstream_format.specs.Checks.{byte_count, crc16_ccitt, crc16_kermit, crc16_low_state, crc16_state, crc16_x25, crc24_adsb, crc32, crc32_mpeg, crc32_mpeg_state, crc32_state, crc_over, end_around, high_step, low_step, place16, steps, sum16, sum16_state, sum16_udp}

-- ---- after more bytes

module _ (step : ℕ → ℕ) (scale : ℕ) where
  pub over-append : (crc : ℕ) (xs ys : List ℕ) → crc_over step scale crc (xs ++ ys)
      ≡ crc_over step scale (crc_over step scale crc xs) ys
  unfolding crc_over
  over-append crc [] ys = refl
  over-append crc (x ∷ xs) ys = over-append (steps step 8 (bit_xor crc (x % 256 * scale))) xs ys

  over-one : (crc x : ℕ) → crc_over step scale crc (x ∷ []) ≡ steps step 8 (bit_xor crc (x % 256 * scale))
  unfolding crc_over
  over-one crc x = refl

  -- one byte more, in a loop
  pub over-push : (first crc next : ℕ) (xs : List ℕ) (i d : ℕ) → i < length xs → crc ≡ crc_over step scale first (take i xs)
      → next ≡ steps step 8 (bit_xor crc (get_or xs i d % 256 * scale)) → next ≡ crc_over step scale first (take (i + 1) xs)
  over-push first crc next xs i d less so_far is =
      is ∙ ap (λ c. steps step 8 (bit_xor c (get_or xs i d % 256 * scale))) so_far
      ∙ sym (over-one (crc_over step scale first (take i xs)) (get_or xs i d))
      ∙ sym (over-append first (take i xs) (get_or xs i d ∷ []))
      ∙ ap (crc_over step scale first) (sym (take_more xs i d less))

  -- one byte more, which is added as the number b
  pub over-byte : (first crc next : ℕ) (xs : List ℕ) (i d b : ℕ) → i < length xs → crc ≡ crc_over step scale first (take i xs)
      → get_or xs i d < 256 → b ≡ get_or xs i d * scale → next ≡ steps step 8 (bit_xor crc b)
      → next ≡ crc_over step scale first (take (i + 1) xs)
  over-byte first crc next xs i d b less so_far small same is =
      let low : get_or xs i d % 256 ≡ get_or xs i d = omega (arith, small) in
      let whole : b ≡ get_or xs i d % 256 * scale = same ∙ ap (λ x. x * scale) (sym low) in
      over-push first crc next xs i d less so_far (is ∙ ap (λ x. steps step 8 (bit_xor crc x)) whole)

  -- two parts of the bytes
  pub over-then : (first a b : ℕ) (xs ys : List ℕ) → a ≡ crc_over step scale first xs → b ≡ crc_over step scale a ys
      → b ≡ crc_over step scale first (xs ++ ys)
  over-then first a b xs ys one two = two ∙ ap (λ c. crc_over step scale c ys) one ∙ sym (over-append first xs ys)

  pub over-none : (crc : ℕ) → crc ≡ crc_over step scale crc []
  unfolding crc_over
  over-none crc = refl

  -- the state of a checksum that starts, and of one that takes more bytes
  pub over-started : (first : ℕ) → first ∷ [] ≡ crc_over step scale first [] ∷ []
  over-started first = ap (λ crc. crc ∷ []) (over-none first)

  pub over-taken : (first a b : ℕ) (xs ys : List ℕ) → a ∷ [] ≡ crc_over step scale first xs ∷ []
      → b ≡ crc_over step scale a ys → b ∷ [] ≡ crc_over step scale first (xs ++ ys) ∷ []
  over-taken first a b xs ys one two =
      let same : a ≡ crc_over step scale first xs = cc in
      ap (λ crc. crc ∷ []) (over-then first a b xs ys same two)

pub one-state : (a b : ℕ) → a ∷ [] ≡ b ∷ [] → a ≡ b
one-state a b is = cc

pub steps-none : (step : ℕ → ℕ) (crc : ℕ) → crc ≡ steps step 0 crc
unfolding steps
steps-none step crc = refl

pub steps-more : (step : ℕ → ℕ) (first crc next k : ℕ) → crc ≡ steps step k first → next ≡ step crc
    → next ≡ steps step (k + 1) first
unfolding steps
steps-more step first crc next k so_far is = rw (add-one k) (is ∙ ap step so_far)

pub sum-append : (sum at : ℕ) (xs ys : List ℕ) → sum16_state sum at (xs ++ ys)
    ≡ sum16_state (sum16_state sum at xs) (at + length xs) ys
unfolding sum16_state
sum-append sum at [] ys = ap (λ k. sum16_state sum k ys) (omega arith)
sum-append sum at (x ∷ xs) ys =
    sum-append (end_around sum (place16 at x)) (at + 1) xs ys
    ∙ ap (λ k. sum16_state (sum16_state (end_around sum (place16 at x)) (at + 1) xs) k ys) (omega arith)

sum-one : (sum at x : ℕ) → sum16_state sum at (x ∷ []) ≡ end_around sum (place16 at x)
unfolding sum16_state
sum-one sum at x = refl

pub sum-none : (sum at : ℕ) → sum ≡ sum16_state sum at []
unfolding sum16_state
sum-none sum at = refl

pub sum-then : (first at a b : ℕ) (xs ys : List ℕ) → a ≡ sum16_state first at xs → b ≡ sum16_state a (at + length xs) ys
    → b ≡ sum16_state first at (xs ++ ys)
sum-then first at a b xs ys one two = two ∙ ap (λ s. sum16_state s (at + length xs) ys) one ∙ sym (sum-append first at xs ys)

-- only the place of the first byte counts, even or odd
sum-place : (sum p q : ℕ) (xs : List ℕ) → p % 2 ≡ q % 2 → sum16_state sum p xs ≡ sum16_state sum q xs
unfolding sum16_state
sum-place sum p q [] same = refl
sum-place sum p q (x ∷ xs) same =
    ap (λ k. sum16_state (end_around sum (if k == 0 then 256 * x else x)) (p + 1) xs) same
    ∙ sum-place (end_around sum (place16 q x)) (p + 1) (q + 1) xs (omega (arith, same))

pub first-state : (a b c d : ℕ) → a ∷ b ∷ [] ≡ c ∷ d ∷ [] → a ≡ c
first-state a b c d is = cc

second-state : (a b c d : ℕ) → a ∷ b ∷ [] ≡ c ∷ d ∷ [] → b ≡ d
second-state a b c d is = cc

pub sum-started : 0 ∷ 0 ∷ [] ≡ sum16_state 0 0 [] ∷ 0 ∷ []
unfolding sum16_state
sum-started = refl

pub sum-taken : (sum place new behind : ℕ) (xs ys : List ℕ)
    → sum ∷ place ∷ [] ≡ sum16_state 0 0 xs ∷ length xs % 2 ∷ [] → new ≡ sum16_state sum place ys
    → behind ≡ (place % 2 + length ys % 2) % 2
    → new ∷ behind ∷ [] ≡ sum16_state 0 0 (xs ++ ys) ∷ length (xs ++ ys) % 2 ∷ []
sum-taken sum place new behind xs ys was is at =
    let one = first-state _ _ _ _ was in
    let here = second-state _ _ _ _ was in
    let same : place % 2 ≡ (0 + length xs) % 2 = omega (arith, here) in
    let whole = sum-then 0 0 sum new xs ys one (is ∙ sum-place sum place (0 + length xs) ys same) in
    let long = length-append xs ys in
    let parity : behind ≡ length (xs ++ ys) % 2 = omega (arith, here, at, long) in
    ap (λ s. s ∷ behind ∷ []) whole ∙ ap (λ k. sum16_state 0 0 (xs ++ ys) ∷ k ∷ []) parity

pub sum-push : (first at sum next k : ℕ) (xs : List ℕ) (i d : ℕ) → i < length xs → k ≡ (at + i) % 2
    → sum ≡ sum16_state first at (take i xs)
    → next ≡ end_around sum (place16 k (get_or xs i d)) → next ≡ sum16_state first at (take (i + 1) xs)
sum-push first at sum next k xs i d less place so_far is =
    let long : length (take i xs) ≡ i = length-take-le i xs (omega (arith, less)) in
    let same : k % 2 ≡ (at + length (take i xs)) % 2 = omega (arith, place, long) in
    is ∙ ap (λ p. end_around sum (if p == 0 then 256 * get_or xs i d else get_or xs i d)) same
    ∙ ap (λ s. end_around s (place16 (at + length (take i xs)) (get_or xs i d))) so_far
    ∙ sym (sum-one (sum16_state first at (take i xs)) (at + length (take i xs)) (get_or xs i d))
    ∙ sym (sum-append first at (take i xs) (get_or xs i d ∷ []))
    ∙ ap (sum16_state first at) (sym (take_more xs i d less))

-- ---- the number of bytes

-- more bytes are counted, up to 2^64 - 1
pub count-taken : (a b : ℕ) (xs ys : List ℕ) → a ∷ [] ≡ byte_count xs ∷ [] → b ≡ min (a + length ys) 18446744073709551615
    → b ∷ [] ≡ byte_count (xs ++ ys) ∷ []
count-taken a b xs ys was is =
    let one = one-state _ _ was in
    let long = length-append xs ys in
    let all : b ≡ byte_count (xs ++ ys) = omega (arith, one, is, long) in
    ap (λ n. n ∷ []) all

-- ---- they fit their bits

module _ (n : ℕ) (step : ℕ → ℕ) (keeps : (crc : ℕ) → crc < 2 ^ n → step crc < 2 ^ n) where
  steps-fit : (k crc : ℕ) → crc < 2 ^ n → steps step k crc < 2 ^ n
  unfolding steps
  steps-fit zero crc small = small
  steps-fit (suc k) crc small = keeps (steps step k crc) (steps-fit k crc small)

  over-fits : (scale : ℕ) → 255 * scale < 2 ^ n → (xs : List ℕ) (crc : ℕ) → crc < 2 ^ n → crc_over step scale crc xs < 2 ^ n
  unfolding crc_over
  over-fits scale few [] crc small = small
  over-fits scale few (x ∷ xs) crc small =
      let byte : x % 256 ≤ 255 = omega arith in
      let most : x % 256 * scale ≤ 255 * scale = mul-le-mul_right scale byte in
      let part : x % 256 * scale < 2 ^ n = omega (arith, most, few) in
      let sum : bit_xor crc (x % 256 * scale) < 2 ^ n = xor_lt n crc (x % 256 * scale) small part in
      over-fits scale few xs (steps step 8 (bit_xor crc (x % 256 * scale))) (steps-fit 8 (bit_xor crc (x % 256 * scale)) sum)

low-keeps : (n polynomial : ℕ) → polynomial < 2 ^ n → (crc : ℕ) → crc < 2 ^ n → low_step polynomial crc < 2 ^ n
low-keeps n polynomial less crc small =
    let half : crc / 2 < 2 ^ n = omega (arith, small) in
    let other = xor_lt n (crc / 2) polynomial half less in
    grind (arith, half, other)

high-keeps : (n half polynomial : ℕ) → 2 ^ n ≡ 2 * half → polynomial < 2 ^ n → (crc : ℕ) → crc < 2 ^ n
    → high_step half polynomial crc < 2 ^ n
high-keeps n half polynomial twice less crc small = elim (cases_lt crc half) [
  | inl fewer ↦ rw (lt-ltb crc half fewer) (omega (arith, twice, fewer))
  | inr more ↦ rw (le-ltb crc half more) (xor_lt n (2 * (crc - half)) polynomial (omega (arith, twice, small, more)) less)
]

pub crc32-small : (bytes : List ℕ) → crc32 bytes < 2 ^ 32
crc32-small bytes =
    xor_lt 32 _ 0xFFFFFFFF (over-fits 32 (low_step 0xEDB88320) (low-keeps 32 0xEDB88320 (omega arith)) 1 (omega arith) bytes 0xFFFFFFFF (omega arith)) (omega arith)

pub crc32_mpeg-small : (bytes : List ℕ) → crc32_mpeg bytes < 2 ^ 32
crc32_mpeg-small bytes =
    over-fits 32 (high_step 0x80000000 0x04C11DB7) (high-keeps 32 0x80000000 0x04C11DB7 refl (omega arith)) 0x1000000 (omega arith) bytes 0xFFFFFFFF (omega arith)

pub crc24_adsb-small : (bytes : List ℕ) → crc24_adsb bytes < 2 ^ 24
crc24_adsb-small bytes =
    let all = over-fits 32 (high_step 0x80000000 0xFFF40900) (high-keeps 32 0x80000000 0xFFF40900 refl (omega arith)) 0x1000000 (omega arith) bytes 0 (omega arith) in
    omega (arith, all)

pub crc16_ccitt-small : (bytes : List ℕ) → crc16_ccitt bytes < 2 ^ 16
crc16_ccitt-small bytes =
    over-fits 16 (high_step 0x8000 0x1021) (high-keeps 16 0x8000 0x1021 refl (omega arith)) 0x100 (omega arith) bytes 0xFFFF (omega arith)

pub crc16_x25-small : (bytes : List ℕ) → crc16_x25 bytes < 2 ^ 16
crc16_x25-small bytes =
    xor_lt 16 _ 0xFFFF (over-fits 16 (low_step 0x8408) (low-keeps 16 0x8408 (omega arith)) 1 (omega arith) bytes 0xFFFF (omega arith)) (omega arith)

pub crc16_kermit-small : (bytes : List ℕ) → crc16_kermit bytes < 2 ^ 16
crc16_kermit-small bytes = over-fits 16 (low_step 0x8408) (low-keeps 16 0x8408 (omega arith)) 1 (omega arith) bytes 0 (omega arith)

pub sum16-small : (bytes : List ℕ) → sum16 bytes < 2 ^ 16
sum16-small bytes = omega arith

pub sum16_udp-small : (bytes : List ℕ) → sum16_udp bytes < 2 ^ 16
sum16_udp-small bytes = grind (arith, sum16-small bytes)

-- a sum of 0 is written as all ones, and another one as it is
pub udp-none : (n : ℕ) (bytes : List ℕ) → n ≡ sum16 bytes → n ≡ 0 → 65535 ≡ sum16_udp bytes
udp-none n bytes is none = rw (eq-eqb (sum16 bytes) 0 (sym is ∙ none)) refl

pub udp-some : (n : ℕ) (bytes : List ℕ) → n ≡ sum16 bytes → (n ≡ 0 → ⊥) → n ≡ sum16_udp bytes
udp-some n bytes is some = rw (ne_eqb (sum16 bytes) 0 (λ none. some (is ∙ none))) is

-- ---- the test of a checksum

-- a written checksum is that of the fields
pub verified-back : {A : Type 0} (n : ℕ) {x : Decoder A} (y : Decoder A) (es : List Encoder) (b : A) → RoundTrip x es b
    → RoundTrip (if n == n then x else y) es b
verified-back n y es b back = rw (eq-eqb n n refl) back
