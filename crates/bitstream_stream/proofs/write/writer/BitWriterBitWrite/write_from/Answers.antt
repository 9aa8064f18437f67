use Rattle.bitstream_stream.proofs.write.writer.BitWriterBitWrite.write_from.Goals as goal

pub returns-clause-writes : goal.returns-clause-writes
returns-clause-writes g c = c.write_as_from.ensures.writes

pub returns-clause-asks : goal.returns-clause-asks
returns-clause-asks g c = c.write_as_from.ensures.asks
