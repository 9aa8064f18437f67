-- The fixed header of an MQTT packet (MQTT 3.1.1, section 2.2).
use Rattle.protocols.specs.declared.mqtt_header.MqttHeader.{MqttHeader}
use Rattle.protocols.specs.declared.mqtt_header.MqttError.{MqttError}
use Rattle.protocols.specs.declared.mqtt_header.MqttError.TheVariants.{Reader, NoPacket}
use Rattle.protocols.specs.declared.mqtt_header.Packet.{Packet}
use Rattle.protocols.specs.declared.mqtt_header.Packet.TheVariants.{Connect, ConnAck, Publish, PubAck, PubRec, PubRel, PubComp, Subscribe, SubAck, Unsubscribe, UnsubAck, PingReq, PingResp, Disconnect, Auth}
use Rattle.std.proofs.Common.{refl, true}
use Rattle.bitstream_format.specs.Format.{◌>>=◌, Own as OwnFormat, Parts as FormatParts, format, named, field, own_field, ◌&◌, own_done}
use Rattle.bitstream_format.specs.Cases.{cases}
use Rattle.std.specs.Prelude.{◌≡◌, ◌^◌, ◌<◌, ◌++◌, ◌∷◌, [], ◌==◌, if◌then◌else◌, ℕ, Bool, false, List, Result, Ok, Err, nat_lt}
use Rattle.bitstream_io.specs.Callers.{Decoder, Encoder, pure, Error, Order, High, and_then, unsigned_decoder, align, write_sequence}
use Rattle.bitstream_format.specs.Atoms as atom

-- Made by `./format` from formats/mqtt_header.fields: edit that file and make this one anew.

-- an error of the reader is one of the type's
abbrev pub becomes_mqtt_header : Error → MqttError → Type 0
becomes_mqtt_header error own = own ≡ Reader error

-- the case of a number
abbrev pub packet_of : ℕ → (Result Packet MqttError)
packet_of n = if n == 1 then Ok Connect else if n == 2 then Ok ConnAck else if n == 3 then Ok Publish else if n == 4
    then Ok PubAck else if n == 5 then Ok PubRec else if n == 6 then Ok PubRel else if n == 7 then Ok PubComp else if n
    == 8 then Ok Subscribe else if n == 9 then Ok SubAck else if n == 10 then Ok Unsubscribe else if n == 11 then Ok
    UnsubAck else if n == 12 then Ok PingReq else if n == 13 then Ok PingResp else if n == 14 then Ok Disconnect else if
    n == 15 then Ok Auth else Err NoPacket

-- the number of a case
abbrev pub packet_number : Packet → ℕ
packet_number Connect = 1
packet_number ConnAck = 2
packet_number Publish = 3
packet_number PubAck = 4
packet_number PubRec = 5
packet_number PubRel = 6
packet_number PubComp = 7
packet_number Subscribe = 8
packet_number SubAck = 9
packet_number Unsubscribe = 10
packet_number UnsubAck = 11
packet_number PingReq = 12
packet_number PingResp = 13
packet_number Disconnect = 14
packet_number Auth = 15

-- the read of a case
abbrev pub packet_read : Order → Decoder (Result Packet MqttError)
packet_read o = and_then (unsigned_decoder o 8 4) (λ v. pure (packet_of v))

-- the number of each case fits its bits, and decodes to that case
pub packet_small : (it : Packet) → nat_lt (packet_number it) (2 ^ 4) ≡ true
packet_small Connect = refl
packet_small ConnAck = refl
packet_small Publish = refl
packet_small PubAck = refl
packet_small PubRec = refl
packet_small PubRel = refl
packet_small PubComp = refl
packet_small Subscribe = refl
packet_small SubAck = refl
packet_small Unsubscribe = refl
packet_small UnsubAck = refl
packet_small PingReq = refl
packet_small PingResp = refl
packet_small Disconnect = refl
packet_small Auth = refl

pub packet_again : (it : Packet) → packet_of (packet_number it) ≡ Ok it
packet_again Connect = refl
packet_again ConnAck = refl
packet_again Publish = refl
packet_again PubAck = refl
packet_again PubRec = refl
packet_again PubRel = refl
packet_again PubComp = refl
packet_again Subscribe = refl
packet_again SubAck = refl
packet_again Unsubscribe = refl
packet_again UnsubAck = refl
packet_again PingReq = refl
packet_again PingResp = refl
packet_again Disconnect = refl
packet_again Auth = refl

-- the cases, by their numbers
abbrev pub packet_cases : OwnFormat MqttError Packet
packet_cases = cases 8 4 refl packet_of packet_number packet_small packet_again

-- the lines, in order
abbrev pub mqtt_header_lines : FormatParts MqttHeader (Result MqttHeader MqttError) (λ s. Ok s)
mqtt_header_lines = do
  kind ← own_field packet_cases (λ s. s.kind)
  again ← field atom.bool (λ s. s.again)
  quality ← field (atom.unsigned 8 2 refl) (λ s. s.quality)
  retain ← field atom.bool (λ s. s.retain)
  remaining ← field (atom.groups false 8 32 refl refl) (λ s. s.remaining)
  own_done (record { kind = kind; again = again; quality = quality; retain = retain; remaining = remaining })

-- the reads, in order
abbrev pub mqtt_header_decoder : Order → Decoder (Result MqttHeader MqttError)
mqtt_header_decoder o = mqtt_header_lines.read o

-- the writes, in order
abbrev pub mqtt_header_writes : Order → MqttHeader → List Encoder
mqtt_header_writes o value = mqtt_header_lines.write o value

-- each field fits its bits
pub record Fits (value : MqttHeader) : Type 0 where
  pub quality : value.quality < 2 ^ 2
  pub remaining : value.remaining < 2 ^ 32

-- the number of bits
abbrev pub mqtt_header_size : Order → MqttHeader → ℕ
mqtt_header_size o value = mqtt_header_lines.size value

-- the format, with the facts that must fit by name
abbrev pub mqtt_header_format : OwnFormat MqttError MqttHeader
mqtt_header_format = named Fits (format mqtt_header_lines (λ s. refl {a = s}))
    (λ s fits. fits.quality & fits.remaining)

-- the bits of all fields, up to a whole byte
unfoldable pub mqtt_header_bits : MqttHeader → List Bool
mqtt_header_bits value = write_sequence (mqtt_header_writes High value ++ align ∷ []) 0
