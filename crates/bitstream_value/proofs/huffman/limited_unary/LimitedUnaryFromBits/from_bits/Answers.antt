use Rattle.std.proofs.Common.{nat_eq, arith}
use Rattle.bitstream_value.proofs.LimitedLemmas.{Counting-more, Counting-stop, Counting-refused, Counting-end}
use Rattle.bitstream_value.proofs.huffman.limited_unary.LimitedUnaryFromBits.from_bits.Goals as goal
use Rattle.bitstream_stream.proofs.Reading.UnaryReads.{other_bit, same_bit}

pub returns-in_err-next_bit : goal.returns-in_err-next_bit
returns-in_err-next_bit g c = record {
  reads = Counting-refused c.from_residual.result c.loop-digits.invariant
      c.loop-digits-test.true c.from_residual.ensures.1 c.in_err-next_bit.ensures.reads;
}

pub returns-then-branch-stop : goal.returns-then-branch-stop
returns-then-branch-stop g c =
    let same = same_bit c.in_ok-next_bit.field-0 (nat_eq g.row.STOP_BIT 1) c.if-branch-stop.true in
    record {
      reads = Counting-stop c.loop-digits.invariant c.loop-digits-test.true
          (rw same at c.in_ok-next_bit.ensures.reads);
    }

pub loop-digits-preserved : goal.loop-digits-preserved
loop-digits-preserved g c =
    let other = other_bit c.in_ok-next_bit.field-0 (nat_eq g.row.STOP_BIT 1) c.if-branch-stop.false in
    Counting-more c.loop-digits.invariant c.loop-digits-test.true (rw other at c.in_ok-next_bit.ensures.reads)

pub returns : goal.returns
returns g c = let end = c.loop-digits-test.false in record {
  reads =
      Counting-end c.loop-digits.invariant (omega arith);
}
