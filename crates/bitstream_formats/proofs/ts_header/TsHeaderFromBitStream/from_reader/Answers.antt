-- Made by `./format` from formats/ts_header.fields: edit that file and make this one anew.
use Rattle.bitstream_formats.proofs.ts_header.TsHeaderFromBitStream.from_reader.Goals as goal

pub returns : goal.returns
returns g c = record { reads = c.read.ensures }
