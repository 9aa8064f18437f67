-- Made by `./format` from formats/primary_header.fields: edit that file and make this one anew.
use Rattle.bitstream_callers.proofs.primary_header.PrimaryHeaderFromBitStream.from_reader.Goals as goal

pub returns : goal.returns
returns g c = record { reads = c.read.ensures }
