use Rattle.bitstream_stream.proofs.Writing.SinkLemmas.{restate}
use Rattle.bitstream_stream.proofs.Writing.WriteLemmas.{unsigned-const}
use Rattle.bitstream_stream.proofs.write.BitWrite.write_const.Goals as goal

pub returns : goal.returns
returns g c =
    let K = g.Self.BitWrite.sink in
    record {
      writes = restate K _ _ _ _ _ (unsigned-const K.order 32 g.B.Width.BITS g.V.Width.BITS
          (K.len c.args.self.now) c.requires.word c.requires.value)
          (rw c.BITS.ensures at c.write_unsigned.ensures.writes);
    }
