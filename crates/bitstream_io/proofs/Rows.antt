-- Worked rows of lists of calls.
use Rattle.std.proofs.Common.{◌≡◌, ◌<◌, ◌^◌, ℕ, ℤ, Bool, true, false, List, [], ◌∷◌, Some, None, Ok, Err, length, refl}
use Rattle.std.specs.List.{All}
use Rattle.bitstream_number.specs.Word.{Order, High, FitsSignedBits, bits, digits, digits_number}
use Rattle.bitstream_count.specs.Codec.{and_then, pure}
use Rattle.bitstream_count.specs.Vbr.{groups_at}
use Rattle.bitstream_count.specs.declared.error.Error.TheVariants.{RedundantGroup}
use Rattle.bitstream_stream.specs.Reading.ReadTable.{unsigned_decoder, unary_decoder, groups_decoder, vbr_decoder, signed_vbr_decoder, bytes_decoder, skip_decoder, align_decoder}
use Rattle.bitstream_stream.specs.Sequence.{write_sequence, read_sequence}
use Rattle.bitstream_stream.specs.Writing.WriteTable.{unsigned, unary_word, vbr, signed_vbr, buffer, zeros}
use Rattle.bitstream_value.proofs.BackLemmas.{RoundTrip}
use Rattle.bitstream_io.proofs.CallsBack.{calls_round_trip}
use Rattle.bitstream_io.specs.ReadBack.{accepted_calls, matching_reads, answers_of}
use Rattle.bitstream_io.specs.ReadScript.{read_decoders, sequence_answers}
use Rattle.bitstream_io.specs.Script.{write_encoders}
use Rattle.bitstream_io.specs.declared.script.answers.Answer.TheVariants as answer
use Rattle.bitstream_io.specs.declared.script.read_call.ReadCall.TheVariants as read
use Rattle.bitstream_io.specs.declared.script.write_call.WriteCall.{WriteCall}
use Rattle.bitstream_io.specs.declared.script.write_call.WriteCall.TheVariants.{U8, Unary0, Align}

-- 5 in 3 bits; 4 in 2 bits, which is rejected; 7 in no bits; 2 as a unary number; and up to the next byte
calls : List WriteCall
calls = U8 3 5 ∷ U8 2 4 ∷ U8 0 7 ∷ Unary0 2 ∷ Align ∷ []

kept : accepted_calls High calls 0 ≡ U8 3 5 ∷ U8 0 7 ∷ Unary0 2 ∷ Align ∷ []
unfolding calls digits unsigned
kept = refl

words : write_sequence (write_encoders None High calls) 0 ≡ true ∷ false ∷ true ∷ true ∷ true ∷ false ∷ false ∷ false ∷ []
unfolding calls digits unsigned
words = refl

reads : matching_reads (accepted_calls High calls 0) ≡ read.U8 3 ∷ read.U8 0 ∷ read.Unary0 ∷ read.Align ∷ []
unfolding calls digits unsigned
reads = refl

answers : answers_of (accepted_calls High calls 0)
    ≡ Some (Ok (answer.U8 5)) ∷ Some (Ok (answer.U8 0)) ∷ Some (Ok (answer.Unary 2)) ∷ Some (Ok answer.Done) ∷ []
unfolding calls digits unsigned
answers = refl

-- their encodings, and then a bit more
left : List Bool
left = true ∷ false ∷ true ∷ true ∷ true ∷ false ∷ false ∷ false ∷ true ∷ []

back : sequence_answers (read_sequence (read_decoders High (read.U8 3 ∷ read.U8 0 ∷ read.Unary0 ∷ read.Align ∷ [])) 0 left)
    ≡ Some (Ok (answer.U8 5)) ∷ Some (Ok (answer.U8 0)) ∷ Some (Ok (answer.Unary 2)) ∷ Some (Ok answer.Done) ∷ []
unfolding left and_then digits_number unsigned_decoder unary_decoder align_decoder
back = refl

-- 1 in two groups, of which the last is 0: by the strict call and by the lenient one
redundant : sequence_answers (read_sequence (read_decoders High (read.Vbr4 ∷ read.AnyVbr4 ∷ [])) 0 (bits High (144 ∷ 144 ∷ [])))
    ≡ Some (Err RedundantGroup) ∷ Some (Ok (answer.Vbr 1)) ∷ []
unfolding and_then digits digits_number groups_decoder groups_at
redundant = refl

-- a run, two numbers of variable width, four bytes and three bits of padding
in_a_row : (o : Order) (k v : ℕ) (x : ℤ) (bytes : List ℕ) → k < 2 ^ 32 → v < 2 ^ 32 → FitsSignedBits 64 x
    → length bytes ≡ 4 → All (λ b. b < 256) bytes
    → RoundTrip {A = ℕ × ℕ × ℤ × List ℕ}
    (and_then (unary_decoder false) (λ a. and_then (vbr_decoder o 8 32 (2 ^ 32)) (λ b. and_then (signed_vbr_decoder o 4 64)
    (λ c. and_then (bytes_decoder o 4) (λ d. and_then (skip_decoder 3) (λ _. pure (a, b, c, d)))))))
    (unary_word false k ∷ vbr o 8 v ∷ signed_vbr o 4 x ∷ buffer o bytes ∷ zeros 3 ∷ []) (k, v, x, bytes)
in_a_row o k v x bytes small less fits size each = search (calls_round_trip, small, less, fits, size, each) depth 16
