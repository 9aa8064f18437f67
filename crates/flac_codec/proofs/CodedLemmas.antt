-- The coded numbers of FLAC go back.
use Rattle.std.proofs.Common.{◌*◌, ◌/◌, ◌%◌, ◌≤◌, ◌==◌, zero, suc, false, sym, pow-suc}
use Rattle.std.specs.Prelude.{if◌then◌else◌, Result, Err}
use native.Mathlib.Nat.{div-div-eq-div-mul, mod-lt, mul-le-mul_right, mul-le-mul_left, mul_assoc, mul_comm, one-le-pow}
use Rattle.std.proofs.lemmas.Nat.{pow-add}
use Rattle.std.proofs.lemmas.Bool.Decides.{nat_tests}
use Rattle.std.proofs.lemmas.Bool.{cases_lt, le-ltb, lt-ltb, ne_eqb}
use Rattle.bitstream_io.specs.Callers.{BitSource, ReadsOwn, and_then, const_decoder, plain, pure, unsigned, unsigned_decoder, word}
use Rattle.bitstream_io.specs.Codec.{Decoder, Encoder}
use Rattle.bitstream_io.proofs.CallerLemmas.{◌∷◌, ◌≡◌, ◌∙◌, ℕ, ◌+◌, ◌-◌, ◌^◌, ◌<◌, List, Ok, Order, RoundTrip, ap, arith, refl, inl, inr, at_most-back, computed-back, else-back, pure-back, literal-back, unary-back, unsigned-back, var-back}
use Rattle.flac_codec.specs.Coded.{bytes_needed, bytes_writes, coded_decoder, coded_writes, least_of, rest_decoder, rest_writes, shortest}
use Rattle.flac_codec.specs.Errors.{becomes_flac}
use Rattle.flac_codec.specs.declared.error.FlacError.{FlacError}
use Rattle.flac_codec.specs.declared.error.FlacError.TheVariants.{NotCoded}

-- the digits of a number to the base 64
digits : (n c : ℕ) → 64 * (n / 64 ^ suc c) + n / 64 ^ c % 64 ≡ n / 64 ^ c
digits n c =
    let q = n / 64 ^ c in
    let same : n / 64 ^ suc c ≡ q / 64 = ap (λ m. n / m) (pow-suc 64 c) ∙ sym (div-div-eq-div-mul n (64 ^ c) 64) in
    rw same (omega arith)

shortest-is : (least number same : ℕ) → same ≡ number → least ≤ number → shortest least same ≡ Ok number
shortest-is least number same is enough = rw (is, le-ltb number least enough) refl

rest-back : (o : Order) (least number c : ℕ) → least ≤ number
    → RoundTrip (rest_decoder o least c (number / 64 ^ c)) (rest_writes o c number) (Ok number)
rest-back o least number zero enough = computed-back _ _ (shortest-is least number _ (omega arith) enough)
rest-back o least number (suc c) enough =
    let behind : RoundTrip (rest_decoder o least c (64 * (number / 64 ^ suc c) + number / 64 ^ c % 64)) (rest_writes o c number) (Ok number) =
    rw (digits number c) (rest-back o least number c enough) in
    literal-back _ _ o 2 2 _ refl
    (unsigned-back o 6 _ _ 64 (number / 64 ^ c % 64) _ refl (mod-lt (number / 64 ^ c) (omega arith)) behind)

bytes-back : (o : Order) (bytes number : ℕ) → 2 ≤ bytes → bytes ≤ 7 → number / 64 ^ (bytes - 1) < 2 ^ (7 - bytes)
    → least_of bytes ≤ number → RoundTrip (coded_decoder o) (bytes_writes o bytes number) (Ok number)
bytes-back o bytes number two seven fits enough =
    unary-back _ _ false bytes _ (omega arith)
    (else-back _ _ _ _ (bytes == 0) (ne_eqb bytes 0 (λ e. omega arith))
    (else-back _ _ _ _ (bytes == 1) (ne_eqb bytes 1 (λ e. omega arith))
    (at_most-back _ _ _ (Ok number) bytes 7 seven
    (var-back o (7 - bytes) _ _ 64 (number / 64 ^ (bytes - 1)) _ (omega arith) fits
    (rest-back o (least_of bytes) number (bytes - 1) enough)))))

-- the same writes
written : {A : Type 0} (e : Decoder A) (a : A) (ws vs : List Encoder) → ws ≡ vs → RoundTrip e vs a → RoundTrip e ws a
written e a ws vs same back = rw same back

-- a number in as many bytes as it needs
sized : (o : Order) (bytes number : ℕ) → bytes_needed number ≡ bytes → 2 ≤ bytes → bytes ≤ 7
    → number / 64 ^ (bytes - 1) < 2 ^ (7 - bytes) → least_of bytes ≤ number
    → RoundTrip (coded_decoder o) (bytes_writes o (bytes_needed number) number) (Ok number)
sized o bytes number is two seven fits enough = rw is (bytes-back o bytes number two seven fits enough)

module _ (o : Order) (number : ℕ) (most : number < 2 ^ 36) where
  abbrev IsBack : Type 0
  IsBack = RoundTrip (coded_decoder o) (bytes_writes o (bytes_needed number) number) (Ok number)

  from_seven : 2 ^ 31 ≤ number → IsBack
  from_seven least = sized o 7 number
      (rw (le-ltb number (2 ^ 11) (omega arith), le-ltb number (2 ^ 16) (omega arith), le-ltb number (2 ^ 21) (omega arith), le-ltb number (2 ^ 26) (omega arith), le-ltb number (2 ^ 31) least) refl)
      (omega arith) (omega arith) (omega arith) (omega arith)

  from_six : 2 ^ 26 ≤ number → IsBack
  from_six least = elim (cases_lt number (2 ^ 31)) [
    | inl less ↦ sized o 6 number
        (rw (le-ltb number (2 ^ 11) (omega arith), le-ltb number (2 ^ 16) (omega arith), le-ltb number (2 ^ 21) (omega arith), le-ltb number (2 ^ 26) least, lt-ltb number (2 ^ 31) less) refl)
        (omega arith) (omega arith) (omega arith) (omega arith)
    | inr more ↦ from_seven more
  ]

  from_five : 2 ^ 21 ≤ number → IsBack
  from_five least = elim (cases_lt number (2 ^ 26)) [
    | inl less ↦ sized o 5 number
        (rw (le-ltb number (2 ^ 11) (omega arith), le-ltb number (2 ^ 16) (omega arith), le-ltb number (2 ^ 21) least, lt-ltb number (2 ^ 26) less) refl)
        (omega arith) (omega arith) (omega arith) (omega arith)
    | inr more ↦ from_six more
  ]

  from_four : 2 ^ 16 ≤ number → IsBack
  from_four least = elim (cases_lt number (2 ^ 21)) [
    | inl less ↦ sized o 4 number
        (rw (le-ltb number (2 ^ 11) (omega arith), le-ltb number (2 ^ 16) least, lt-ltb number (2 ^ 21) less) refl)
        (omega arith) (omega arith) (omega arith) (omega arith)
    | inr more ↦ from_five more
  ]

  from_three : 2 ^ 11 ≤ number → IsBack
  from_three least = elim (cases_lt number (2 ^ 16)) [
    | inl less ↦ sized o 3 number (rw (le-ltb number (2 ^ 11) least, lt-ltb number (2 ^ 16) less) refl)
        (omega arith) (omega arith) (omega arith) (omega arith)
    | inr more ↦ from_four more
  ]

  from_two : 2 ^ 7 ≤ number → IsBack
  from_two least = elim (cases_lt number (2 ^ 11)) [
    | inl less ↦ sized o 2 number (rw (lt-ltb number (2 ^ 11) less) refl)
        (omega arith) (omega arith) (omega arith) (omega arith)
    | inr more ↦ from_three more
  ]

pub coded-back : (o : Order) (number : ℕ) → number < 2 ^ 36
    → RoundTrip (coded_decoder o) (coded_writes o number) (Ok number)
coded-back o number most = elim (cases_lt number (2 ^ 7)) [
  | inl less ↦ written _ _ _ _ (rw (lt-ltb number (2 ^ 7) less) refl)
      (unary-back _ _ false 0 _ (omega arith) (unsigned-back o 7 _ _ 64 number _ refl less (pure-back _)))
  | inr more ↦ written _ _ _ _ (rw (le-ltb number (2 ^ 7) more) refl) (from_two o number most more)
]

-- the bits of the first byte leave room for those of the others
pub room : (ones first : ℕ) → 2 ≤ ones → ones ≤ 7 → first < 2 ^ (7 - ones) → (first + 1) * 64 ^ (ones - 1) ≤ 2 ^ 42
room zero first two seven few = omega arith
room (suc zero) first two seven few = omega arith
room (suc (suc zero)) first two seven few = omega arith
room (suc (suc (suc zero))) first two seven few = omega arith
room (suc (suc (suc (suc zero)))) first two seven few = omega arith
room (suc (suc (suc (suc (suc zero))))) first two seven few = omega arith
room (suc (suc (suc (suc (suc (suc zero)))))) first two seven few = omega arith
room (suc (suc (suc (suc (suc (suc (suc zero))))))) first two seven few = omega arith
room (suc (suc (suc (suc (suc (suc (suc (suc n)))))))) first two seven few = omega arith

-- one step more leaves room too
step_room : (number six bytes : ℕ) → (number + 1) * 64 ^ suc bytes ≤ 2 ^ 42 → six < 64
    → (64 * number + six + 1) * 64 ^ bytes ≤ 2 ^ 42
step_room number six bytes enough few =
    let less : 64 * number + six + 1 ≤ (number + 1) * 64 = omega arith in
    let times : (64 * number + six + 1) * 64 ^ bytes ≤ (number + 1) * 64 * 64 ^ bytes =
    mul-le-mul_right (64 ^ bytes) less in
    let same : (number + 1) * 64 * 64 ^ bytes ≡ (number + 1) * 64 ^ suc bytes =
    mul_assoc (number + 1) 64 (64 ^ bytes)
    ∙ ap (λ n. (number + 1) * n) (mul_comm 64 (64 ^ bytes) ∙ sym (pow-suc 64 bytes)) in
    omega (arith, times, same, enough)

pub more_room : (number six bytes : ℕ) → 0 < bytes → (number + 1) * 64 ^ bytes ≤ 2 ^ 42 → six < 64
    → (64 * number + six + 1) * 64 ^ (bytes - 1) ≤ 2 ^ 42
more_room number six zero some enough few = omega (arith, some)
more_room number six (suc bytes) some enough few =
    let one : suc bytes - 1 ≡ bytes = omega arith in
    rw one (step_room number six bytes enough few)

-- what stands behind a byte more
pub rest_own : {R : Type 0} {K : BitSource R} {s t : R} {r : Result ℕ FlacError} (o : Order) (least bytes number : ℕ)
    → 0 < bytes
    → ReadsOwn K becomes_flac (and_then (const_decoder o 2 2) (λ follows.
    if follows then and_then (unsigned_decoder o 64 6) (λ six. rest_decoder o least (bytes - 1) (64 * number + six))
    else pure (Err NotCoded))) s r t
    → ReadsOwn K becomes_flac (rest_decoder o least bytes number) s r t
rest_own o least zero number some reads = let no : ⊥ = omega (arith, some) in absurd no
rest_own o least (suc bytes) number some reads =
    let one : suc bytes - 1 ≡ bytes = omega arith in
    rw one at reads

pub wide : (number count : ℕ) → (number + 1) * 64 ^ count ≤ 2 ^ 42 → number < 2 ^ 42
wide number count enough =
    let one = mul-le-mul_left (number + 1) (one-le-pow count 64 (omega arith)) in
    omega (arith, one, enough)

-- ---- written

sixes : (k : ℕ) → 2 ^ (6 * k) ≡ 64 ^ k
sixes zero = refl
sixes (suc k) =
    let more : 6 * suc k ≡ 6 * k + 6 = omega arith in
    rw (more, pow-add 2 (6 * k) 6, sixes k) (sym (pow-suc 64 k))

-- the six bits of a byte
pub six_bits : (number bytes : ℕ) → number / 2 ^ (6 * bytes) % 64 ≡ number / 64 ^ bytes % 64
six_bits number bytes = rw (sixes bytes) refl

-- the writes of a byte and of those behind it
pub rest_writes-more : (o : Order) (bytes number : ℕ) → 0 < bytes
    → rest_writes o bytes number
    ≡ plain (word o 2 2) ∷ unsigned o 64 6 (number / 64 ^ (bytes - 1) % 64) ∷ rest_writes o (bytes - 1) number
rest_writes-more o zero number some = absurd (omega (arith, some))
rest_writes-more o (suc bytes) number some = let one : suc bytes - 1 ≡ bytes = omega arith in rw one refl

pub bytes_needed-range : (number : ℕ) → (2 ≤ bytes_needed number) × (bytes_needed number ≤ 7)
bytes_needed-range number = grind (arith, nat_tests)

pub number_below : (number : ℕ) → number < 2 ^ 36 → number / 2 ^ (6 * (bytes_needed number - 1)) ≡ number / 64 ^ (bytes_needed number - 1)
number_below number small = rw (sixes (bytes_needed number - 1)) refl

-- the bits of the first byte
pub number-fits : (number : ℕ) → number < 2 ^ 36 → 2 ^ 7 ≤ number
    → number / 64 ^ (bytes_needed number - 1) < 2 ^ (7 - bytes_needed number)
number-fits number small least = elim (cases_lt number (2 ^ 11)) [
  | inl two ↦ rw (lt-ltb number (2 ^ 11) two) (omega arith)
  | inr above2 ↦ elim (cases_lt number (2 ^ 16)) [
    | inl three ↦ rw (le-ltb number (2 ^ 11) above2, lt-ltb number (2 ^ 16) three) (omega arith)
    | inr above3 ↦ elim (cases_lt number (2 ^ 21)) [
      | inl four ↦ rw (le-ltb number (2 ^ 11) above2, le-ltb number (2 ^ 16) above3, lt-ltb number (2 ^ 21) four) (omega arith)
      | inr above4 ↦ elim (cases_lt number (2 ^ 26)) [
        | inl five ↦ rw (le-ltb number (2 ^ 11) above2, le-ltb number (2 ^ 16) above3, le-ltb number (2 ^ 21) above4, lt-ltb number (2 ^ 26) five) (omega arith)
        | inr above5 ↦ elim (cases_lt number (2 ^ 31)) [
          | inl six ↦ rw (le-ltb number (2 ^ 11) above2, le-ltb number (2 ^ 16) above3, le-ltb number (2 ^ 21) above4, le-ltb number (2 ^ 26) above5, lt-ltb number (2 ^ 31) six) (omega arith)
          | inr above6 ↦ rw (le-ltb number (2 ^ 11) above2, le-ltb number (2 ^ 16) above3, le-ltb number (2 ^ 21) above4, le-ltb number (2 ^ 26) above5, le-ltb number (2 ^ 31) above6) (omega arith)
        ]
      ]
    ]
  ]
]
