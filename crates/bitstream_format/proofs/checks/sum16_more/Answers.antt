use Rattle.std.proofs.Common.{arith}
use Rattle.bitstream_format.proofs.ChecksLemmas.{sum-none, sum-push}
use Rattle.bitstream_format.proofs.checks.sum16_more.Goals as goal

pub loop-byte-init : goal.loop-byte-init
loop-byte-init c = record { sum = sum-none c.args.sum c.args.at; place = omega arith }

pub loop-byte-preserved : goal.loop-byte-preserved
loop-byte-preserved c = record {
  sum = sum-push c.args.sum c.args.at c.loop-byte.sum _ c.loop-byte.place c.args.bytes.now c.loop-byte.byte-index 0
      c.loop-byte-test.true c.loop-byte.invariant.place c.loop-byte.invariant.sum (rw c.place16.ensures at c.end_around-sum.ensures);
  place = let was = c.loop-byte.invariant.place in omega (arith, was);
}
