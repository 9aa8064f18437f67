-- Made by `./format --c` from ../protocols/formats/mqtt_header.fields: edit that file and make this one anew.
-- A `MqttHeader` as C sees it.
use Rattle.protocols_c.specs.Varied.{reader_status}
use Rattle.protocols_c.specs.declared.mqtt_header.MqttHeaderC.{MqttHeaderC}
use Rattle.protocols_c.specs.declared.mqtt_header.MqttHeaderParsed.{MqttHeaderParsed}
use Rattle.protocols.specs.MqttHeader.{mqtt_header_size, mqtt_header_bits, packet_of, packet_number}
use Rattle.protocols.specs.declared.mqtt_header.MqttHeader.{MqttHeader}
use Rattle.protocols.specs.declared.mqtt_header.MqttError.{MqttError}
use Rattle.protocols.specs.declared.mqtt_header.MqttError.TheVariants.{Reader, NoPacket}
use Rattle.protocols.specs.declared.mqtt_header.Packet.{Packet}
use Rattle.std.specs.Prelude.{◌+◌, ◌/◌, [], ◌==◌, if◌then◌else◌, ℕ, ℤ, Bool, not, List, Result, Ok, Err, Option, Some, None, pos}
use Rattle.bitstream_io.specs.Codec.{Prefix, Incomplete, Done}
use Rattle.bitstream_io.specs.Callers.{High}

-- the struct of C with these fields
abbrev pub mqtt_header_to_c : MqttHeader → MqttHeaderC
mqtt_header_to_c value = record {
  kind = packet_number value.kind;
  again = if value.again then 1 else 0;
  quality = value.quality;
  retain = if value.retain then 1 else 0;
  remaining = value.remaining;
}

-- the fields of a struct of C, of which some are made already
abbrev pub mqtt_header_made : MqttHeaderC → Result Packet MqttError → Option MqttHeader
mqtt_header_made c (Ok kind) = Some (record {
  kind = kind;
  again = not (c.again == 0);
  quality = c.quality;
  retain = not (c.retain == 0);
  remaining = c.remaining;
})
mqtt_header_made c (Err e) = None

-- the fields of a struct of C, or none if a number of C is no value of its field
abbrev pub mqtt_header_from_c : MqttHeaderC → Option MqttHeader
mqtt_header_from_c c = mqtt_header_made c (packet_of c.kind)

-- the struct of C after an error
abbrev pub mqtt_header_zero : MqttHeaderC
mqtt_header_zero = record {
  kind = 0;
  again = 0;
  quality = 0;
  retain = 0;
  remaining = 0;
}

-- the number of bytes of fields
abbrev pub mqtt_header_bytes : MqttHeader → ℕ
mqtt_header_bytes value = (mqtt_header_size High value + 7) / 8

-- the number of bytes of the fields of a struct of C, if it has fields
abbrev pub mqtt_header_room : Option MqttHeader → ℕ
mqtt_header_room (Some value) = mqtt_header_bytes value
mqtt_header_room None = 0

-- the result of a parse that failed
abbrev pub mqtt_header_failed : ℤ → MqttHeaderParsed
mqtt_header_failed status = record { status = status; taken = 0; value = mqtt_header_zero }

-- the result of a parse for C: 0, the number of bytes that were taken and the fields, or which error
abbrev pub mqtt_header_parsed : ℕ → Result MqttHeader MqttError → MqttHeaderParsed
mqtt_header_parsed taken (Ok value) = record { status = pos 0; taken = taken; value = mqtt_header_to_c value }
mqtt_header_parsed taken (Err (Reader e)) = mqtt_header_failed (reader_status e)
mqtt_header_parsed taken (Err NoPacket) = mqtt_header_failed (pos 6)

-- the same for what the decoder says of all bits: too few, or its result after the first n
abbrev pub mqtt_header_answer : Prefix (Result MqttHeader MqttError) → MqttHeaderParsed
mqtt_header_answer Incomplete = mqtt_header_failed (pos 1)
mqtt_header_answer (Done n (Ok value)) = mqtt_header_parsed ((n + 7) / 8) value
mqtt_header_answer (Done n (Err e)) = mqtt_header_failed (reader_status e)

-- the bits of the fields of a struct of C, if it has fields
abbrev pub mqtt_header_held : Option MqttHeader → List Bool
mqtt_header_held (Some value) = mqtt_header_bits value
mqtt_header_held None = []
