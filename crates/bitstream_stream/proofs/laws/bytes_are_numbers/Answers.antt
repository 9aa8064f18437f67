use Rattle.bitstream_stream.proofs.Reading.BytesLemmas.{bytes-number}
use Rattle.bitstream_stream.proofs.Writing.BytesWritten.{buffer-number}
use Rattle.bitstream_stream.proofs.laws.bytes_are_numbers.Goals as goal

pub returns-clause-reads : goal.returns-clause-reads
returns-clause-reads c o n p bits = (bytes-number o n).reads p bits

pub returns-clause-writes : goal.returns-clause-writes
returns-clause-writes c o n v len small = buffer-number o n v len small
