-- Made by `./format` from formats/quic_stream.fields: edit that file and make this one anew.
-- Worked rows of a `QuicStream`.
use Rattle.network_messages.specs.QuicStream.{quic_stream_decoder, quic_stream_writes}
use Rattle.bitstream_io.specs.Codec.{and_then}
use Rattle.bitstream_io.specs.Word.{digits, digits_number, bytes_of}
use Rattle.bitstream_io.specs.WriteTable.{unsigned}
use Rattle.bitstream_io.specs.ReadTable.{unsigned_decoder, const_decoder, bytes_decoder}
use Rattle.network_messages.specs.declared.quic_stream.QuicStream.{QuicStream}
use Rattle.network_messages.specs.declared.quic_stream.QuicStreamError.TheVariants.{OtherFrame}
use Rattle.std.proofs.Common.{◌≡◌, ◌++◌, ◌∷◌, [], ℕ, true, List, Ok, Err, length, refl}
use Rattle.bitstream_io.specs.Callers.{Done, High, bits, align, write_sequence, sure_answer}

row_0 : List ℕ
row_0 = 15 ∷ 4 ∷ 64 ∷ 100 ∷ 2 ∷ 104 ∷ 105 ∷ []

value_0 : QuicStream
value_0 = record {
  last = true;
  stream = 4;
  offset = 100;
  «data» = 104 ∷ 105 ∷ [];
}

written_0 : (write_sequence (quic_stream_writes High value_0 ++ align ∷ []) 0 ≡ bits High row_0)
    × ((quic_stream_decoder High).reads 0 (bits High row_0)
    ≡ Done (length (write_sequence (quic_stream_writes High value_0) 0)) (Ok (Ok value_0)))
unfolding row_0 value_0 and_then digits digits_number bytes_of unsigned unsigned_decoder const_decoder bytes_decoder
written_0 = (refl, refl)

row_1 : List ℕ
row_1 = 6 ∷ 0 ∷ []

refused_1 : sure_answer ((quic_stream_decoder High).reads 0 (bits High row_1)) ≡ Ok (Err OtherFrame)
unfolding row_1 and_then digits digits_number bytes_of unsigned unsigned_decoder const_decoder bytes_decoder
refused_1 = refl
