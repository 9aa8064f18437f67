-- Made by `./format` from formats/mqtt_header.fields: edit that file and make this one anew.
-- Worked rows of a `MqttHeader`.
use Rattle.protocols.specs.MqttHeader.{mqtt_header_decoder, mqtt_header_writes}
use Rattle.bitstream_io.specs.Codec.{and_then}
use Rattle.bitstream_io.specs.Word.{digits, digits_number}
use Rattle.bitstream_io.specs.WriteTable.{unsigned}
use Rattle.bitstream_io.specs.ReadTable.{unsigned_decoder, groups_decoder, signed_groups_decoder}
use Rattle.bitstream_io.specs.Vbr.{groups, groups_at}
use Rattle.protocols.specs.declared.mqtt_header.MqttHeader.{MqttHeader}
use Rattle.protocols.specs.declared.mqtt_header.MqttError.TheVariants.{NoPacket}
use Rattle.protocols.specs.declared.mqtt_header.Packet.TheVariants.{Publish, PingReq}
use Rattle.std.proofs.Common.{◌≡◌, ◌++◌, ◌∷◌, [], ℕ, false, List, Ok, Err, length, refl}
use Rattle.bitstream_io.specs.Callers.{Done, High, bits, align, write_sequence, sure_answer}

row_0 : List ℕ
row_0 = 48 ∷ 193 ∷ 2 ∷ []

value_0 : MqttHeader
value_0 = record {
  kind = Publish;
  again = false;
  quality = 0;
  retain = false;
  remaining = 321;
}

written_0 : (write_sequence (mqtt_header_writes High value_0 ++ align ∷ []) 0 ≡ bits High row_0)
    × ((mqtt_header_decoder High).reads 0 (bits High row_0)
    ≡ Done (length (write_sequence (mqtt_header_writes High value_0) 0)) (Ok (Ok value_0)))
unfolding row_0 value_0 and_then digits digits_number unsigned unsigned_decoder groups_decoder signed_groups_decoder
    groups groups_at
written_0 = (refl, refl)

row_1 : List ℕ
row_1 = 192 ∷ 0 ∷ []

value_1 : MqttHeader
value_1 = record {
  kind = PingReq;
  again = false;
  quality = 0;
  retain = false;
  remaining = 0;
}

written_1 : (write_sequence (mqtt_header_writes High value_1 ++ align ∷ []) 0 ≡ bits High row_1)
    × ((mqtt_header_decoder High).reads 0 (bits High row_1)
    ≡ Done (length (write_sequence (mqtt_header_writes High value_1) 0)) (Ok (Ok value_1)))
unfolding row_1 value_1 and_then digits digits_number unsigned unsigned_decoder groups_decoder signed_groups_decoder
    groups groups_at
written_1 = (refl, refl)

row_2 : List ℕ
row_2 = 0 ∷ []

refused_2 : sure_answer ((mqtt_header_decoder High).reads 0 (bits High row_2)) ≡ Ok (Err NoPacket)
unfolding row_2 and_then digits digits_number unsigned unsigned_decoder groups_decoder signed_groups_decoder groups
    groups_at
refused_2 = refl
