use Rattle.bitstream_stream.proofs.write.writer.BitWriterBitWrite.write_signed_counted.Goals as goal

pub returns-clause-writes : goal.returns-clause-writes
returns-clause-writes g c = rw c.bits.ensures.value at c.write_signed_var.ensures.writes

pub returns-clause-asks : goal.returns-clause-asks
returns-clause-asks g c = rw c.bits.ensures.value at c.write_signed_var.ensures.asks
