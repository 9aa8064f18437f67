use Rattle.bitstream_stream.specs.Writing.Writer.{writer_sink}
use Rattle.bitstream_stream.proofs.Writing.SinkLemmas.{restate}
use Rattle.bitstream_stream.proofs.Writing.WriteLemmas.{unsigned-const}
use Rattle.bitstream_stream.proofs.write.writer.BitWriterBitWrite.write_const.Goals as goal

pub returns-clause-writes : goal.returns-clause-writes
returns-clause-writes g c =
    let K = writer_sink g.W.Target.stream g.E.Endianness.order in
    restate K _ _ _ _ _ (unsigned-const K.order 32 g.B.Width.BITS g.V.Width.BITS (K.len c.args.self.now) c.requires.word
    c.requires.value) (rw c.BITS.ensures at c.write_unsigned.ensures.writes)
