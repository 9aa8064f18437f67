-- Made by `./format` from formats/flac_start.fields: edit that file and make this one anew.
use Rattle.bitstream_callers.proofs.flac_start.FlacStartFromBitStream.from_reader.Goals as goal

pub returns : goal.returns
returns g c = record { reads = c.read.ensures }
