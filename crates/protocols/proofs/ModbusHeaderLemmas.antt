-- Made by `./format` from formats/modbus_header.fields: edit that file and make this one anew.
-- A written `ModbusHeader` is read back, and its number of bits.
use Rattle.protocols.specs.ModbusHeader.{modbus_header_decoder, modbus_header_writes, modbus_header_size, modbus_header_format, modbus_header_bits, Fits}
use Rattle.protocols.specs.declared.modbus_header.ModbusHeader.{ModbusHeader}
use Rattle.std.proofs.Common.{◌≡◌, ◌++◌, ◌∷◌, [], ℕ, Ok, refl}
use Rattle.bitstream_io.proofs.CallerLemmas.{RoundTrip, Packs}
use Rattle.bitstream_io.specs.Callers.{Order, High, align, write_sequence, AllAccepted}

-- a written value is read back
pub modbus_header_goes : (o : Order) (value : ModbusHeader) → Fits value
    → RoundTrip (modbus_header_decoder o) (modbus_header_writes o value) (Ok value)
modbus_header_goes = modbus_header_format.round_trip

-- each write is accepted, and the value's size is the number of bits written
pub modbus_header_packs : (o : Order) (value : ModbusHeader) → Fits value
    → Packs (modbus_header_writes o value) (modbus_header_size o value)
modbus_header_packs = modbus_header_format.packs

-- each field fits if each write is accepted
pub modbus_header_fits : (o : Order) (value : ModbusHeader) (at : ℕ) → AllAccepted (modbus_header_writes o value) at →
    Fits value
modbus_header_fits o value at = modbus_header_format.accepted o value at tt

-- the bits, of which a search is to see no part
pub told : (value : ModbusHeader)
    → write_sequence (modbus_header_writes High value ++ align ∷ []) 0 ≡ modbus_header_bits value
unfolding modbus_header_bits
told value = refl
