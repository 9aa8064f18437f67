use Rattle.std.proofs.Common.{rules}
use Rattle.bitstream_stream.proofs.read.reader.BitReader.byte_reader_of.Goals as goal

pub returns-in-Some-clause-name : goal.returns-in-Some-clause-name
returns-in-Some-clause-name g c = search rules
