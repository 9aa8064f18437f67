-- Call sequences: the meaning of lists of calls that are made one after another.
use Rattle.std.specs.Prelude.{ℕ, ◌+◌, Bool, List, [], ◌∷◌, ◌++◌, length, drop, Option, Some, None, Result, Ok, Err}
use Rattle.bitstream_count.specs.declared.error.Error.{Error}
use Rattle.bitstream_count.specs.declared.error.Error.TheVariants.{RunTooLong}
use Rattle.bitstream_count.specs.Codec.{Prefix, Incomplete, Done, Decoder, Encoder}

-- the encoding of an accepted call, and no bits for a rejected one
abbrev pub accepted_bits : Result (List Bool) Error → List Bool
accepted_bits (Ok w) = w
accepted_bits (Err e) = []

-- the error of a call, if it was rejected
abbrev pub refusal_if_any : Result (List Bool) Error → Option Error
refusal_if_any (Ok w) = None
refusal_if_any (Err e) = Some e

-- the encodings of the accepted calls, in the order of the calls; each one is for the length reached before it
abbrev pub write_sequence : List Encoder → ℕ → List Bool
write_sequence [] len = []
write_sequence (decoder ∷ decoders) len =
    let w = accepted_bits (decoder len) in
    w ++ write_sequence decoders (len + length w)

-- the error of each call, if it was rejected
abbrev pub write_refusals : List Encoder → ℕ → List (Option Error)
write_refusals [] len = []
write_refusals (decoder ∷ decoders) len =
    let w = decoder len in
    refusal_if_any w ∷ write_refusals decoders (len + length (accepted_bits w))

-- a call's result and the place after it, and then the results of the calls that follow; none if the bits are
-- too few, and none after a run that was too long
abbrev pub answer_and : {A : Type 0} → Prefix A → ℕ → (ℕ → List (Result A Error × ℕ)) → List (Result A Error × ℕ)
answer_and Incomplete p others = []
answer_and (Done n (Err RunTooLong)) p others = (Err RunTooLong, p + n) ∷ []
answer_and (Done n answer) p others = (answer, p + n) ∷ others n

-- the result of each call on the bits from a place on, and the place after it: up to the first call whose bits
-- are too few
abbrev pub read_sequence : {A : Type 0} → List (Decoder A) → ℕ → List Bool → List (Result A Error × ℕ)
read_sequence [] p bits = []
read_sequence (decoder ∷ decoders) p bits = answer_and (decoder.reads p bits) p (λ n. read_sequence decoders (p + n) (drop n bits))
