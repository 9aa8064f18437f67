use Rattle.bitstream_stream.proofs.read.reader.BitReaderBitRead.read_unsigned_counted.Goals as goal

pub returns-clause-reads : goal.returns-clause-reads
returns-clause-reads g c = rw c.bits.ensures.value at c.read_unsigned_var.ensures.reads

pub returns-clause-asks : goal.returns-clause-asks
returns-clause-asks g c = rw c.bits.ensures.value at c.read_unsigned_var.ensures.asks
