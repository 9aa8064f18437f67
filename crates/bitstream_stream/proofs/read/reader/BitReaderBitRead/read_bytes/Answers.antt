use Rattle.bitstream_stream.proofs.read.reader.BitReaderBitRead.read_bytes.Goals as goal

pub returns-clause-reads : goal.returns-clause-reads
returns-clause-reads g c = c.fill.ensures.reads

pub returns-clause-asks : goal.returns-clause-asks
returns-clause-asks g c = c.fill.ensures.asks
