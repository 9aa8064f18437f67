use Rattle.bitstream_stream.specs.Writing.Writer.{writer_sink}
use Rattle.bitstream_stream.proofs.Writing.SinkLemmas.{restate}
use Rattle.bitstream_stream.proofs.Writing.WriteLemmas.{unsigned-count}
use Rattle.bitstream_stream.proofs.write.writer.BitWriterBitWrite.write_count.Goals as goal

pub returns-clause-writes : goal.returns-clause-writes
returns-clause-writes g c =
    let K = writer_sink g.W.Target.stream g.E.Endianness.order in
    restate K _ _ _ _ _ (unsigned-count K.order 32 g.C.Count.MAX (g.C.Count.number c.args.count) _ _ _
    (K.len c.args.self.now) c.count_bits.ensures.width c.MAX.ensures c.count_bits.ensures.bound c.bits.ensures.value
    c.bits.ensures.bound) c.write_unsigned_var.ensures.writes

pub returns-clause-asks : goal.returns-clause-asks
returns-clause-asks g c = rw (c.count_bits.ensures.width, c.MAX.ensures) at c.write_unsigned_var.ensures.asks
