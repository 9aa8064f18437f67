use Rattle.bitstream_stream.proofs.Writing.SinkLemmas.{restate}
use Rattle.bitstream_stream.proofs.Writing.WriteLemmas.{unsigned-count}
use Rattle.bitstream_stream.proofs.write.BitWrite.write_count.Goals as goal

pub returns : goal.returns
returns g c =
    let K = g.Self.BitWrite.sink in
    record {
      writes = restate K _ _ _ _ _ (unsigned-count K.order 32 g.C.Count.MAX (g.C.Count.number c.args.count) _ _ _
          (K.len c.args.self.now) c.count_bits.ensures.width c.MAX.ensures c.count_bits.ensures.bound
          c.bits.ensures.value
          c.bits.ensures.bound) c.write_unsigned_var.ensures.writes;
    }
