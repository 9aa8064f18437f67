-- The number of bits that lists of write calls take.
use Rattle.std.specs.Prelude.{◌≡◌, ℕ, ◌+◌, ◌%◌, ◌<◌, ◌≤◌, nat_lt, if◌then◌else◌, List, [], ◌∷◌, length, Result, Ok, Err, MatchResult}
use Rattle.bitstream_number.specs.Word.{Order}
use Rattle.bitstream_count.specs.declared.error.Error.{Error}
use Rattle.bitstream_count.specs.declared.error.Error.TheVariants.{CounterOverflow}
use Rattle.bitstream_count.specs.Codec.{Encoder, result_then}
use Rattle.bitstream_value.specs.Own.{OwnAnswer}

-- the result of a counter that has counted `len` bits and holds `most` at most: its count after these calls, or
-- the first error
abbrev pub counted_bits : ℕ → List Encoder → ℕ → Result ℕ Error
counted_bits most [] len = Ok len
counted_bits most (encoder ∷ encoders) len =
    result_then (encoder len) (λ word. if nat_lt most (len + length word) then Err CounterOverflow else counted_bits most
    encoders (len + length word))

-- the length of the encodings of these calls after `len` bits, or the first error
abbrev pub sequence_length : List Encoder → ℕ → Result ℕ Error
sequence_length [] len = Ok 0
sequence_length (encoder ∷ encoders) len = result_then (encoder len) (λ word. result_then (sequence_length encoders (len + length word))
    (λ more. Ok (length word + more)))

-- in both orders of bits, and at all places with the same number of bits after a whole byte, the encodings have one
-- length
abbrev pub HasOneLength : (Order → List Encoder) → Type 0
HasOneLength encoders = (o p : Order) (m n : ℕ) → m % 8 ≡ n % 8 → sequence_length (encoders o) m ≡ sequence_length (encoders p) n

-- a result, with another value if it is `Ok`
abbrev pub in_place : {A B E : Type 0} → Result A E → B → Result B E
in_place (Ok x) y = Ok y
in_place (Err error) y = Err error

-- the number of a result
abbrev pub number_of : {C E : Type 0} → (C → ℕ) → Result C E → Result ℕ E
number_of value (Ok x) = Ok (value x)
number_of value (Err error) = Err error

-- a count of the bits of these calls on a new counter that holds `most` at most: their number, or the error that the
-- calls have on it
abbrev pub CountsBits : {C E : Type 0} → (C → ℕ) → ℕ → (Error → E → Type 0) → List Encoder → Result (Unit {0}) E
    → Result C E → Type 0
CountsBits value most becomes encoders answer result = OwnAnswer becomes (in_place answer) (counted_bits most encoders 0)
    (number_of value result)

-- the number n, or an error exactly if it is above `most`
abbrev pub IsNumberWithin : {C E : Type 0} → (C → ℕ) → ℕ → (Error → E → Type 0) → ℕ → Result C E → Type 0
IsNumberWithin value most becomes n result = MatchResult result (λ x. (value x ≡ n) × (n ≤ most)) (λ error. (most < n)
    × becomes CounterOverflow error)
