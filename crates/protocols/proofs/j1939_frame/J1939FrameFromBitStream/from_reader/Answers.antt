-- Made by `./format` from formats/j1939_frame.fields: edit that file and make this one anew.
use Rattle.protocols.proofs.j1939_frame.J1939FrameFromBitStream.from_reader.Goals as goal

pub returns : goal.returns
returns g c = record { reads = c.read.ensures }
