-- Lists of write calls and their matching reads: the values written are read back.
use Rattle.std.specs.Prelude.{◌≡◌, ◌++◌, ℕ, ◌+◌, ◌%◌, ◌^◌, ◌<◌, ◌==◌, if◌then◌else◌, Bool, true, false, List, [], ◌∷◌, length, map, Option, Some, None, Result, Ok, Err, is_ok, ⊤}
use Rattle.std.specs.List.{All}
use Rattle.bitstream_number.specs.Word.{Order, FitsSignedBits, bits}
use Rattle.bitstream_count.specs.Codec.{Decoder, Encoder, Done}
use Rattle.bitstream_count.specs.declared.error.Error.{Error}
use Rattle.bitstream_count.specs.declared.error.Error.TheVariants.{OutOfMemory}
use Rattle.bitstream_order.specs.Fault.{read_refusal_of}
use Rattle.bitstream_order.specs.Refusal.{Refusal, IsTrueEnd}
use Rattle.bitstream_stream.specs.Reading.Reads.{BitSource}
use Rattle.bitstream_stream.specs.Sequence.{accepted_bits, write_sequence}
use Rattle.bitstream_io.specs.declared.script.answers.Answer.{Answer}
use Rattle.bitstream_io.specs.declared.script.answers.Answer.TheVariants as answer
use Rattle.bitstream_io.specs.declared.script.read_call.ReadCall.{ReadCall}
use Rattle.bitstream_io.specs.declared.script.read_call.ReadCall.TheVariants as read
use Rattle.bitstream_io.specs.declared.script.write_call.WriteCall.{WriteCall}
use Rattle.bitstream_io.specs.declared.script.write_call.WriteCall.TheVariants.{Bit, U8, U16, U32, U64, U128, I8, I16, I32, I64, I128, Unary0, Unary1, Vbr4, Vbr8, SignedVbr4, SignedVbr8, Bytes, Pad, Align}
use Rattle.bitstream_io.specs.ReadScript.{asks_memory, failed_answers}
use Rattle.bitstream_io.specs.Script.{write_encoder, write_encoders}

-- The values of a call are values of their types. There is no condition on a number in n bits: if it is
-- accepted, it fits them.
abbrev pub IsCall : WriteCall → Type 0
IsCall (Unary0 k) = k < 2 ^ 32
IsCall (Unary1 k) = k < 2 ^ 32
IsCall (Vbr4 v) = v < 2 ^ 64
IsCall (Vbr8 v) = v < 2 ^ 64
IsCall (SignedVbr4 x) = FitsSignedBits 64 x
IsCall (SignedVbr8 x) = FitsSignedBits 64 x
IsCall (Bytes bytes) = All (λ b. b < 256) bytes
IsCall _ = ⊤

-- Wherever these calls write, the read takes only the bits that they wrote, whatever follows them, and returns
-- a.
abbrev pub IsReadAs : {A : Type 0} → List Encoder → Decoder A → A → Type 0
IsReadAs writes entry a =
    (len p : ℕ) (more : List Bool)
    → let word = write_sequence writes len in entry.reads p (word ++ more) ≡ Done (length word) (Ok a)

-- the accepted ones of calls, in their order, each called at the length that is reached before it
abbrev pub accepted_calls : Order → List WriteCall → ℕ → List WriteCall
accepted_calls o [] len = []
accepted_calls o (call ∷ calls) len =
    let word = write_encoder o call len in
    let others = accepted_calls o calls (len + length (accepted_bits word)) in
    if is_ok word then call ∷ others else others

-- the read of the same name and width; for a pad, the skip of the same number of bits; for bytes, the same
-- number of bytes
abbrev pub matching_read : WriteCall → ReadCall
matching_read (Bit b) = read.Bit
matching_read (U8 n v) = read.U8 n
matching_read (U16 n v) = read.U16 n
matching_read (U32 n v) = read.U32 n
matching_read (U64 n v) = read.U64 n
matching_read (U128 n v) = read.U128 n
matching_read (I8 n x) = read.I8 n
matching_read (I16 n x) = read.I16 n
matching_read (I32 n x) = read.I32 n
matching_read (I64 n x) = read.I64 n
matching_read (I128 n x) = read.I128 n
matching_read (Unary0 k) = read.Unary0
matching_read (Unary1 k) = read.Unary1
matching_read (Vbr4 v) = read.Vbr4
matching_read (Vbr8 v) = read.Vbr8
matching_read (SignedVbr4 x) = read.SignedVbr4
matching_read (SignedVbr8 x) = read.SignedVbr8
matching_read (Bytes bytes) = read.Bytes (length bytes)
matching_read (Pad n) = read.Skip n
matching_read Align = read.Align

-- the matching reads of calls
abbrev pub matching_reads : List WriteCall → List ReadCall
matching_reads calls = map matching_read calls

-- the value that n bits of v encode: v, or 0 if n is 0
abbrev pub value_in : ℕ → ℕ → ℕ
value_in n v = if n == 0 then 0 else v

-- the result of the matching read of an accepted call: its value, if it has one
abbrev pub answer_of : WriteCall → Answer
answer_of (Bit b) = answer.Bit b
answer_of (U8 n v) = answer.U8 (value_in n v)
answer_of (U16 n v) = answer.U16 (value_in n v)
answer_of (U32 n v) = answer.U32 (value_in n v)
answer_of (U64 n v) = answer.U64 (value_in n v)
answer_of (U128 n v) = answer.U128 (value_in n v)
answer_of (I8 n x) = answer.I8 x
answer_of (I16 n x) = answer.I16 x
answer_of (I32 n x) = answer.I32 x
answer_of (I64 n x) = answer.I64 x
answer_of (I128 n x) = answer.I128 x
answer_of (Unary0 k) = answer.Unary k
answer_of (Unary1 k) = answer.Unary k
answer_of (Vbr4 v) = answer.Vbr v
answer_of (Vbr8 v) = answer.Vbr v
answer_of (SignedVbr4 x) = answer.SignedVbr x
answer_of (SignedVbr8 x) = answer.SignedVbr x
answer_of (Bytes bytes) = answer.Bytes bytes
answer_of (Pad n) = answer.Done
answer_of Align = answer.Done

-- the results of the matching reads of calls, each in its place
abbrev pub answers_of : List WriteCall → List (Option (Result Answer Error))
answers_of calls = map (λ call. Some (Ok (answer_of call))) calls

-- The bits left of a reader begin with the encodings of these calls, as they are written after `len` bits. The
-- number of bits that the reader has taken is `len`, or differs from it by whole bytes.
pub record StandsBefore {R : Type 0} (K : BitSource R) (calls : List WriteCall) (len : ℕ) (reader : R) : Type 0 where
  pub bytes : List ℕ
  pub more : List Bool
  pub known : (K.state reader).bytes ≡ Some bytes
  pub begins : (K.state reader).queue ++ bits K.order bytes ≡ write_sequence (write_encoders None K.order calls) len ++ more
  pub place : (K.state reader).taken % 8 ≡ len % 8

-- The results of the matching reads of calls that wrote these encodings, if the bits left begin with them. A reader
-- that had failed is unchanged. Else each read returns the value that was written; or this holds up to a read
-- whose request or allocation failed, and each later read returns the same as on a failed reader. No request
-- fails at the end of input.
pub data ReadsBack {R : Type 0} (K : BitSource R) (calls : List WriteCall) (words : List Bool) (old : R)
    (answers : List (Option (Result Answer Error))) (new : R) : Type 0 where
  had_failed : (K.state old).failed ≡ true
      → answers ≡ failed_answers K.order (matching_reads calls) → K.state new ≡ K.state old
      → ReadsBack K calls words old answers new
  was_done : (K.state old).failed ≡ false → (K.state new).failed ≡ false
      → answers ≡ answers_of calls → (K.state new).taken ≡ (K.state old).taken + length words
      → ReadsBack K calls words old answers new
  was_refused : (before : List WriteCall) (call : WriteCall) (behind : List WriteCall) (refusal : Refusal)
      → (K.state old).failed ≡ false → (K.state new).failed ≡ true → calls ≡ before ++ call ∷ behind
      → K.may refusal → (K.state new).refusals ≡ refusal ∷ (K.state old).refusals → (IsTrueEnd refusal → ⊥)
      → answers ≡ answers_of before
      ++ Some (Err (read_refusal_of refusal.kind)) ∷ failed_answers K.order (matching_reads behind)
      → ReadsBack K calls words old answers new
  memory_refused : (before : List WriteCall) (call : WriteCall) (behind : List WriteCall)
      → (K.state old).failed ≡ false → (K.state new).failed ≡ true → calls ≡ before ++ call ∷ behind
      → asks_memory (matching_read call) ≡ true → (K.state new).refusals ≡ (K.state old).refusals
      → answers ≡ answers_of before ++ Some (Err OutOfMemory) ∷ failed_answers K.order (matching_reads behind)
      → ReadsBack K calls words old answers new
