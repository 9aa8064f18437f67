-- Lists of write calls: the meaning of each call, and the effect of all of them on a sink.
use Rattle.std.specs.Prelude.{◌≡◌, ◌++◌, ◌+◌, ℕ, nat_lt, if◌then◌else◌, Bool, true, false, List, [], ◌∷◌, length, map, replicate, Option, Some, None, Result, Ok, Err, ⊤}
use Rattle.bitstream_number.specs.Word.{Order}
use Rattle.bitstream_count.specs.Codec.{Encoder}
use Rattle.bitstream_count.specs.declared.error.Error.{Error}
use Rattle.bitstream_count.specs.declared.error.Error.TheVariants.{Failed, CounterOverflow}
use Rattle.bitstream_stream.specs.Sequence.{write_sequence, write_refusals}
use Rattle.bitstream_stream.specs.Writing.Sink.{Sink, Appended, Kept, WriteRefused, IsWithin}
use Rattle.bitstream_stream.specs.Writing.WriteTable.{bit, unsigned, signed, unary_word, vbr, signed_vbr, buffer, zeros, align}
use Rattle.bitstream_io.specs.declared.script.write_call.WriteCall.{WriteCall}
use Rattle.bitstream_io.specs.declared.script.write_call.WriteCall.TheVariants.{Bit, U8, U16, U32, U64, U128, I8, I16, I32, I64, I128, Unary0, Unary1, Vbr4, Vbr8, SignedVbr4, SignedVbr8, Bytes, Pad, Align}

-- the encoder of a call
abbrev pub write_encoder : Order → WriteCall → Encoder
write_encoder o (Bit b) = bit b
write_encoder o (U8 n v) = unsigned o 8 n v
write_encoder o (U16 n v) = unsigned o 16 n v
write_encoder o (U32 n v) = unsigned o 32 n v
write_encoder o (U64 n v) = unsigned o 64 n v
write_encoder o (U128 n v) = unsigned o 128 n v
write_encoder o (I8 n x) = signed o 8 n x
write_encoder o (I16 n x) = signed o 16 n x
write_encoder o (I32 n x) = signed o 32 n x
write_encoder o (I64 n x) = signed o 64 n x
write_encoder o (I128 n x) = signed o 128 n x
write_encoder o (Unary0 k) = unary_word false k
write_encoder o (Unary1 k) = unary_word true k
write_encoder o (Vbr4 v) = vbr o 4 v
write_encoder o (Vbr8 v) = vbr o 8 v
write_encoder o (SignedVbr4 x) = signed_vbr o 4 x
write_encoder o (SignedVbr8 x) = signed_vbr o 8 x
write_encoder o (Bytes bytes) = buffer o bytes
write_encoder o (Pad n) = zeros n
write_encoder o Align = align

-- no call is an alignment
abbrev pub AlignsNowhere : List WriteCall → Type 0
AlignsNowhere [] = ⊤
AlignsNowhere (Align ∷ calls) = ⊥
AlignsNowhere (_ ∷ calls) = AlignsNowhere calls

-- the length of a call's encoding in bits, or its error
abbrev pub word_size : Result (List Bool) Error → Result ℕ Error
word_size (Ok word) = Ok (length word)
word_size (Err error) = Err error

-- an encoding after `len` bits, or the error of its call, if there is a limit: an encoding that would exceed it is
-- not accepted
abbrev pub within_limit : Option ℕ → ℕ → Result (List Bool) Error → Result (List Bool) Error
within_limit None len result = result
within_limit (Some most) len (Err error) = Err error
within_limit (Some most) len (Ok word) = if nat_lt most (len + length word) then Err CounterOverflow else Ok word

-- an encoder on a sink that has this limit
abbrev pub limit_encoder : Option ℕ → Encoder → Encoder
limit_encoder limit encoder len = within_limit limit len (encoder len)

-- the encoders of calls, on a sink that has this limit
abbrev pub write_encoders : Option ℕ → Order → List WriteCall → List Encoder
write_encoders limit o calls = map (λ c. limit_encoder limit (write_encoder o c)) calls

-- The effect of write calls on a sink, all made in order, from their encoders. A sink that had failed is
-- unchanged. Else the write sequence is appended, and each call returns the result of its encoder; or this
-- holds up to a call with a failed request, which returns the I/O error, and each later call returns `Failed`.
pub data WritesSequence {S : Type 0} (K : Sink S) (encoders : List Encoder) (old : S)
    (answers : List (Option Error)) (new : S) : Type 0 where
  had_failed : K.failed old ≡ true → answers ≡ replicate (length encoders) (Some Failed) → Kept K old new
      → WritesSequence K encoders old answers new
  was_refused : (before : List Encoder) (encoder : Encoder) (behind : List Encoder) (mid stopped : S)
      (word : List Bool) (error : Error)
      → K.failed old ≡ false → encoders ≡ before ++ encoder ∷ behind
      → Appended K old (write_sequence before (K.len old)) mid
      → encoder (K.len mid) ≡ Ok word → WriteRefused K mid word error stopped → Kept K stopped new
      → answers ≡ write_refusals before (K.len old) ++ Some error ∷ replicate (length behind) (Some Failed)
      → WritesSequence K encoders old answers new
  was_done : K.failed old ≡ false → answers ≡ write_refusals encoders (K.len old)
      → Appended K old (write_sequence encoders (K.len old)) new
      → WritesSequence K encoders old answers new

-- Suppose that a sink has not failed before or after write calls, and that its limit holds all their encodings.
-- Then the calls return the results of these encoders, and the sink grows by the length of the encodings.
abbrev pub Counts : {S : Type 0} → Sink S → List Encoder → S → List (Option Error) → S → Type 0
Counts K encoders old answers new =
    K.failed old ≡ false → K.failed new ≡ false → IsWithin K.limit (K.len old + length (write_sequence encoders (K.len old)))
    → (answers ≡ write_refusals encoders (K.len old)) × (K.len new ≡ K.len old + length (write_sequence encoders (K.len old)))
