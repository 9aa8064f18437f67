-- Made by `./format` from formats/modbus_header.fields: edit that file and make this one anew.
use Rattle.protocols.proofs.modbus_header.ModbusHeaderFromBitStream.from_reader.Goals as goal

pub returns : goal.returns
returns g c = record { reads = c.read.ensures }
