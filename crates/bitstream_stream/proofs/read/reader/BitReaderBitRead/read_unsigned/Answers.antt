use Rattle.bitstream_stream.proofs.read.reader.BitReaderBitRead.read_unsigned.Goals as goal

pub returns-clause-reads : goal.returns-clause-reads
returns-clause-reads g c = rw c.BITS.ensures at c.read_word.ensures.reads

pub returns-clause-asks : goal.returns-clause-asks
returns-clause-asks g c = rw c.BITS.ensures at c.read_word.ensures.asks
