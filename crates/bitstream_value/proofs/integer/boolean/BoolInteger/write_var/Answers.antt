use Rattle.std.proofs.Common.{arith}
use Rattle.bitstream_stream.proofs.Writing.WriteParts.{all_one}
use Rattle.bitstream_value.proofs.BooleanLemmas.{writes-bit, writes-refused}
use Rattle.bitstream_value.proofs.integer.boolean.BoolInteger.write_var.Goals as goal

pub returns-then-bits-eq1 : goal.returns-then-bits-eq1
returns-then-bits-eq1 g c = record {
  writes =
      let K = g.W.BitWrite.sink in
      all_one K _ _ _ _ (writes-bit K _ _ _ _ _ (let b = c.bits.ensures.value in let one = c.if-bits-eq1.true in
      omega (arith, b, one)) c.write_bit.ensures.writes);
}

pub returns-else-bits-eq1 : goal.returns-else-bits-eq1
returns-else-bits-eq1 g c = record {
  writes =
      let K = g.W.BitWrite.sink in
      all_one K _ _ _ _ (writes-refused K _ _ _ _ _ (λ one. c.if-bits-eq1.false (let b = c.bits.ensures.value in
      omega (arith, b, one))) c.refuse_write.ensures.writes);
}
