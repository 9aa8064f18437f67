-- Made by `./format` from formats/ntp_timestamp.fields: edit that file and make this one anew.
-- Worked rows of a `NtpTimestamp`.
use Rattle.protocols.specs.NtpTimestamp.{ntp_timestamp_decoder, ntp_timestamp_writes}
use Rattle.bitstream_io.specs.Codec.{and_then}
use Rattle.bitstream_io.specs.Word.{digits, digits_number}
use Rattle.bitstream_io.specs.WriteTable.{unsigned}
use Rattle.bitstream_io.specs.ReadTable.{unsigned_decoder}
use Rattle.protocols.specs.declared.ntp_timestamp.NtpTimestamp.{NtpTimestamp}
use Rattle.std.proofs.Common.{◌≡◌, ◌++◌, ◌∷◌, [], ℕ, List, Ok, length, refl}
use Rattle.bitstream_io.specs.Callers.{Done, High, bits, align, write_sequence}

row_0 : List ℕ
row_0 = 197 ∷ 2 ∷ 4 ∷ 236 ∷ 236 ∷ 66 ∷ 238 ∷ 146 ∷ []

value_0 : NtpTimestamp
value_0 = record {
  seconds = 3305243884;
  fraction = 3963809426;
}

written_0 : (write_sequence (ntp_timestamp_writes High value_0 ++ align ∷ []) 0 ≡ bits High row_0)
    × ((ntp_timestamp_decoder High).reads 0 (bits High row_0)
    ≡ Done (length (write_sequence (ntp_timestamp_writes High value_0) 0)) (Ok value_0))
unfolding row_0 value_0 and_then digits digits_number unsigned unsigned_decoder
written_0 = (refl, refl)
