use Rattle.bitstream_stream.proofs.Writing.WriteParts.{all_one}
use Rattle.bitstream_value.proofs.BooleanLemmas.{writes-bit}
use Rattle.bitstream_value.proofs.integer.boolean.BoolInteger.write.Goals as goal

pub returns : goal.returns
returns g c = record {
  writes =
      let K = g.W.BitWrite.sink in
      all_one K _ _ _ _ (writes-bit K _ _ _ _ _ c.requires c.write_bit.ensures.writes);
}
