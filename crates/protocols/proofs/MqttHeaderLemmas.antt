-- Made by `./format` from formats/mqtt_header.fields: edit that file and make this one anew.
-- A written `MqttHeader` is read back, and its number of bits.
use Rattle.protocols.specs.MqttHeader.{mqtt_header_decoder, mqtt_header_writes, mqtt_header_size, mqtt_header_format, mqtt_header_bits, Fits}
use Rattle.protocols.specs.declared.mqtt_header.MqttHeader.{MqttHeader}
use Rattle.std.proofs.Common.{◌≡◌, ◌++◌, ◌∷◌, [], Ok, refl}
use Rattle.bitstream_io.proofs.CallerLemmas.{RoundTrip, Packs}
use Rattle.bitstream_io.specs.Callers.{Order, High, align, write_sequence}

-- a written value is read back
pub mqtt_header_goes : (o : Order) (value : MqttHeader) → Fits value
    → RoundTrip (mqtt_header_decoder o) (mqtt_header_writes o value) (Ok value)
mqtt_header_goes = mqtt_header_format.round_trip

-- each write is accepted, and the value's size is the number of bits written
pub mqtt_header_packs : (o : Order) (value : MqttHeader) → Fits value
    → Packs (mqtt_header_writes o value) (mqtt_header_size o value)
mqtt_header_packs = mqtt_header_format.packs

-- the bits, of which a search is to see no part
pub told : (value : MqttHeader)
    → write_sequence (mqtt_header_writes High value ++ align ∷ []) 0 ≡ mqtt_header_bits value
unfolding mqtt_header_bits
told value = refl
