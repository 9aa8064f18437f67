-- Made by `./format` from formats/header.fields: edit that file and make this one anew.
use Rattle.wav_header.proofs.header.HeaderFromBitStream.from_reader.Goals as goal

pub returns : goal.returns
returns g c = record { reads = c.read.ensures }
