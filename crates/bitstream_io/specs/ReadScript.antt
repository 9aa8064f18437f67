-- Lists of read calls: the meaning of each call, and the results of all of them.
use Rattle.std.specs.Prelude.{◌≡◌, ◌++◌, ℕ, ◌+◌, ◌^◌, Bool, true, false, List, [], ◌∷◌, length, map, Option, Some, Result, Err, if◌then◌else◌, ⊤}
use Rattle.bitstream_number.specs.Word.{Order}
use Rattle.bitstream_count.specs.Codec.{Decoder, and_then, pure}
use Rattle.bitstream_count.specs.declared.error.Error.{Error}
use Rattle.bitstream_count.specs.declared.error.Error.TheVariants.{RunTooLong, OutOfMemory, EndOfInput}
use Rattle.bitstream_order.specs.Fault.{read_refusal_of}
use Rattle.bitstream_order.specs.Refusal.{Refusal, IsTrueEnd}
use Rattle.bitstream_stream.specs.Reading.Reads.{BitSource, ReadOutcome, is_run_too_long}
use Rattle.bitstream_stream.specs.Reading.ReadTable.{bit_decoder, unsigned_decoder, signed_decoder, unary_decoder, vbr_decoder, any_vbr_decoder, signed_vbr_decoder, bytes_decoder, skip_decoder, align_decoder}
use Rattle.bitstream_stream.specs.Sequence.{read_sequence}
use Rattle.bitstream_io.specs.declared.script.answers.Answer.{Answer}
use Rattle.bitstream_io.specs.declared.script.answers.Answer.TheVariants as variant
use Rattle.bitstream_io.specs.declared.script.read_call.ReadCall.{ReadCall}
use Rattle.bitstream_io.specs.declared.script.read_call.ReadCall.TheVariants.{Bit, U8, U16, U32, U64, U128, I8, I16, I32, I64, I128, Unary0, Unary1, Vbr4, Vbr8, AnyVbr4, AnyVbr8, SignedVbr4, SignedVbr8, Bytes, Skip, Align}

-- a read, with its value wrapped in the type of all calls' values
abbrev pub map_answer : {A : Type 0} → (A → Answer) → Decoder A → Decoder Answer
map_answer make decoder = and_then decoder (λ value. pure (make value))

-- the decoder of a call
abbrev pub read_decoder : Order → ReadCall → Decoder Answer
read_decoder o Bit = map_answer variant.Bit bit_decoder
read_decoder o (U8 n) = map_answer variant.U8 (unsigned_decoder o 8 n)
read_decoder o (U16 n) = map_answer variant.U16 (unsigned_decoder o 16 n)
read_decoder o (U32 n) = map_answer variant.U32 (unsigned_decoder o 32 n)
read_decoder o (U64 n) = map_answer variant.U64 (unsigned_decoder o 64 n)
read_decoder o (U128 n) = map_answer variant.U128 (unsigned_decoder o 128 n)
read_decoder o (I8 n) = map_answer variant.I8 (signed_decoder o 8 n)
read_decoder o (I16 n) = map_answer variant.I16 (signed_decoder o 16 n)
read_decoder o (I32 n) = map_answer variant.I32 (signed_decoder o 32 n)
read_decoder o (I64 n) = map_answer variant.I64 (signed_decoder o 64 n)
read_decoder o (I128 n) = map_answer variant.I128 (signed_decoder o 128 n)
read_decoder o Unary0 = map_answer variant.Unary (unary_decoder false)
read_decoder o Unary1 = map_answer variant.Unary (unary_decoder true)
read_decoder o Vbr4 = map_answer variant.Vbr (vbr_decoder o 4 64 (2 ^ 64))
read_decoder o Vbr8 = map_answer variant.Vbr (vbr_decoder o 8 64 (2 ^ 64))
read_decoder o AnyVbr4 = map_answer variant.Vbr (any_vbr_decoder o 4 64 (2 ^ 64))
read_decoder o AnyVbr8 = map_answer variant.Vbr (any_vbr_decoder o 8 64 (2 ^ 64))
read_decoder o SignedVbr4 = map_answer variant.SignedVbr (signed_vbr_decoder o 4 64)
read_decoder o SignedVbr8 = map_answer variant.SignedVbr (signed_vbr_decoder o 8 64)
read_decoder o (Bytes n) = map_answer variant.Bytes (bytes_decoder o n)
read_decoder o (Skip n) = map_answer (λ _. variant.Done) (skip_decoder n)
read_decoder o Align = map_answer (λ _. variant.Done) align_decoder

-- true if a call may allocate
abbrev pub asks_memory : ReadCall → Bool
asks_memory (Bytes n) = true
asks_memory _ = false

-- the decoders of calls
abbrev pub read_decoders : Order → List ReadCall → List (Decoder Answer)
read_decoders o calls = map (read_decoder o) calls

-- the calls were made in order, each as a read of its decoder, and each place has the result of its call
unfoldable pub ReadsEach : {R : Type 0} → BitSource R → List ReadCall → R → List (Option (Result Answer Error)) → R
    → Type 0
ReadsEach K [] old [] new = K.state new ≡ K.state old
ReadsEach K [] old (place ∷ places) new = ⊥
ReadsEach K (call ∷ calls) old [] new = ⊥
ReadsEach {R} K (call ∷ calls) old (place ∷ places) new =
    (answer : Result Answer Error) × (mid : R) × (place ≡ Some answer)
    × ReadOutcome K (asks_memory call) (read_decoder K.order call) old answer mid
    × ReadsEach K calls mid places new

-- the results of a read sequence, each in its place
abbrev pub sequence_answers : List (Result Answer Error × ℕ) → List (Option (Result Answer Error))
sequence_answers run = map (λ step. Some step.0) run

-- the place after a read sequence that began at place p
abbrev pub place_behind : ℕ → List (Result Answer Error × ℕ) → ℕ
place_behind p [] = p
place_behind p (step ∷ run) = place_behind step.1 run

-- the results of calls on a failed reader
abbrev pub failed_answers : Order → List ReadCall → List (Option (Result Answer Error))
failed_answers o calls = map (λ call. Some (read_decoder o call).on_failed) calls

-- The results of read calls, if the bits left are these: one of five outcomes.
pub data ReadsSequence {R : Type 0} (K : BitSource R) (calls : List ReadCall) (bits : List Bool) (old : R)
    (answers : List (Option (Result Answer Error))) (new : R) : Type 0 where
  -- The reader had failed: each call returns so, and nothing changes.
  had_failed : (K.state old).failed ≡ true → answers ≡ failed_answers K.order calls → K.state new ≡ K.state old
      → ReadsSequence K calls bits old answers new
  -- Each call returns the result of the read sequence.
  was_done : (K.state old).failed ≡ false → (K.state new).failed ≡ false
      → length (read_sequence (read_decoders K.order calls) (K.state old).taken bits) ≡ length calls
      → answers ≡ sequence_answers (read_sequence (read_decoders K.order calls) (K.state old).taken bits)
      → (K.state new).taken ≡ place_behind (K.state old).taken
      (read_sequence (read_decoders K.order calls) (K.state old).taken bits)
      → ReadsSequence K calls bits old answers new
  -- This holds up to a call that finds a run too long; each later call returns the same as on a failed reader.
  too_long : (before behind : List ReadCall) (first : List (Result Answer Error × ℕ)) (place : ℕ)
      → (K.state old).failed ≡ false → (K.state new).failed ≡ true
      → calls ≡ before ++ behind → length before ≡ length first + 1
      → read_sequence (read_decoders K.order calls) (K.state old).taken bits ≡ first ++ (Err RunTooLong, place) ∷ []
      → answers ≡ sequence_answers first ++ Some (Err RunTooLong) ∷ failed_answers K.order behind
      → (K.state new).taken ≡ place
      → ReadsSequence K calls bits old answers new
  -- This holds up to a call whose request failed, at the end of input only if it has no prefix; each later call
  -- returns the same as on a failed reader.
  was_refused : (before : List ReadCall) (call : ReadCall) (behind : List ReadCall)
      (first others : List (Result Answer Error × ℕ)) (refusal : Refusal)
      → (K.state old).failed ≡ false → (K.state new).failed ≡ true
      → calls ≡ before ++ call ∷ behind → length before ≡ length first
      → read_sequence (read_decoders K.order calls) (K.state old).taken bits ≡ first ++ others
      → K.may refusal → (K.state new).refusals ≡ refusal ∷ (K.state old).refusals
      → (IsTrueEnd refusal → others ≡ [])
      → answers ≡ sequence_answers first ++ Some (Err (read_refusal_of refusal.kind)) ∷ failed_answers K.order behind
      → ReadsSequence K calls bits old answers new
  -- This holds up to a call whose allocation failed; each later call returns the same as on a failed reader.
  memory_refused : (before : List ReadCall) (call : ReadCall) (behind : List ReadCall)
      (first others : List (Result Answer Error × ℕ))
      → (K.state old).failed ≡ false → (K.state new).failed ≡ true
      → calls ≡ before ++ call ∷ behind → length before ≡ length first → asks_memory call ≡ true
      → read_sequence (read_decoders K.order calls) (K.state old).taken bits ≡ first ++ others
      → (K.state new).refusals ≡ (K.state old).refusals
      → answers ≡ sequence_answers first ++ Some (Err OutOfMemory) ∷ failed_answers K.order behind
      → ReadsSequence K calls bits old answers new

-- the results of calls if all bits left are known: first the results of their read sequence, then the end of
-- input, and then the same as on a failed reader
abbrev pub sure_answers : Order → List ReadCall → List (Result Answer Error × ℕ) → List (Option (Result Answer Error))
sure_answers o [] run = []
sure_answers o (call ∷ calls) [] = Some (Err EndOfInput) ∷ failed_answers o calls
sure_answers o (call ∷ calls) (step ∷ run) =
    Some step.0 ∷ (if is_run_too_long step.0 then failed_answers o calls else sure_answers o calls run)

-- no call may ask for memory
abbrev pub AsksNoMemory : List ReadCall → Type 0
AsksNoMemory [] = ⊤
AsksNoMemory (Bytes n ∷ calls) = ⊥
AsksNoMemory (_ ∷ calls) = AsksNoMemory calls
