-- Made by `./format` from formats/checked_ipv4.fields: edit that file and make this one anew.
-- Worked rows of a `CheckedIpv4`.
use Rattle.network_messages.specs.CheckedIpv4.{checked_ipv4_decoder, checked_ipv4_writes}
use Rattle.bitstream_io.specs.Codec.{and_then}
use Rattle.bitstream_io.specs.Word.{digits, digits_number}
use Rattle.bitstream_io.specs.WriteTable.{unsigned}
use Rattle.bitstream_io.specs.ReadTable.{unsigned_decoder}
use Rattle.bitstream_format.specs.Checks.{sum16_state}
use Rattle.network_messages.specs.declared.checked_ipv4.CheckedIpv4.{CheckedIpv4}
use Rattle.network_messages.specs.declared.checked_ipv4.CheckedIpv4Error.TheVariants.{WrongSum}
use Rattle.network_messages.specs.declared.checked_ipv4.Start.TheVariants.{NoOptions}
use Rattle.std.proofs.Common.{◌≡◌, ◌++◌, ◌∷◌, [], ℕ, List, Ok, Err, length, refl}
use Rattle.bitstream_io.specs.Callers.{Done, High, bits, align, write_sequence, sure_answer}

row_0 : List ℕ
row_0 = 69 ∷ 0 ∷ 0 ∷ 115 ∷ 0 ∷ 0 ∷ 64 ∷ 0 ∷ 64 ∷ 17 ∷ 184 ∷ 97 ∷ 192 ∷ 168 ∷ 0 ∷ 1 ∷ 192 ∷ 168 ∷ 0 ∷ 199 ∷ []

value_0 : CheckedIpv4
value_0 = record {
  start = NoOptions;
  service = 0;
  length = 115;
  identification = 0;
  fragment = 16384;
  time = 64;
  protocol = 17;
  source = 3232235521;
  target = 3232235719;
}

written_0 : (write_sequence (checked_ipv4_writes High value_0 ++ align ∷ []) 0 ≡ bits High row_0)
    × ((checked_ipv4_decoder High).reads 0 (bits High row_0)
    ≡ Done (length (write_sequence (checked_ipv4_writes High value_0) 0)) (Ok (Ok value_0)))
unfolding row_0 value_0 and_then digits digits_number unsigned unsigned_decoder sum16_state
written_0 = (refl, refl)

row_1 : List ℕ
row_1 = 69 ∷ 0 ∷ 0 ∷ 115 ∷ 0 ∷ 0 ∷ 64 ∷ 0 ∷ 64 ∷ 17 ∷ 184 ∷ 98 ∷ 192 ∷ 168 ∷ 0 ∷ 1 ∷ 192 ∷ 168 ∷ 0 ∷ 199 ∷ []

refused_1 : sure_answer ((checked_ipv4_decoder High).reads 0 (bits High row_1)) ≡ Ok (Err WrongSum)
unfolding row_1 and_then digits digits_number unsigned unsigned_decoder sum16_state
refused_1 = refl
