-- Made by `./format` from formats/mp3_header.fields: edit that file and make this one anew.
use Rattle.protocols.proofs.mp3_header.Mp3HeaderFromBitStream.from_reader.Goals as goal

pub returns : goal.returns
returns g c = record { reads = c.read.ensures }
