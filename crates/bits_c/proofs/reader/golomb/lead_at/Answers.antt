use Rattle.std.proofs.Common.{◌≡◌, ◌+◌, ℕ, drop, ap, arith}
use Rattle.bitstream_io.specs.Callers.{bits}
use Rattle.bitstream_io.specs.Unary.{lead}
use Rattle.bitstream_io.proofs.WordLemmas.{length-bits}
use Rattle.bits_c.proofs.BitLemmas.{lead-more, lead-stops}
use Rattle.bits_c.proofs.reader.golomb.lead_at.Goals as goal

pub loop-count-init : goal.loop-count-init
loop-count-init g c =
    let xs = bits g.O.Endianness.order c.args.bytes.now in
    let same : c.args.at ≡ c.args.at + 0 = omega arith in
    let none = ap (λ (k : ℕ). lead c.args.stop (drop k xs)) same in
    record { most = omega arith; none = omega (arith, none) }

pub loop-count-preserved : goal.loop-count-preserved
loop-count-preserved g c =
    let xs = bits g.O.Endianness.order c.args.bytes.now in
    let there = c.requires.there in
    let long = length-bits g.O.Endianness.order c.args.bytes.now in
    let less = c.loop-count-test.true in
    record {
      most = omega (arith, less);
      none = lead-more c.args.stop c.bit_at-bit.result xs c.args.at c.loop-count.count (omega (arith, there, long, less))
          c.bit_at-bit.ensures c.if-bit-stop.false c.loop-count.invariant.none;
    }

pub returns-then-bit-stop-clause-stops : goal.returns-then-bit-stop-clause-stops
returns-then-bit-stop-clause-stops g c = λ before.
    let xs = bits g.O.Endianness.order c.args.bytes.now in
    let there = c.requires.there in
    let long = length-bits g.O.Endianness.order c.args.bytes.now in
    let less = c.loop-count-test.true in
    lead-stops c.args.stop c.bit_at-bit.result xs c.args.at c.loop-count.count (omega (arith, there, long, less))
    c.bit_at-bit.ensures c.if-bit-stop.true c.loop-count.invariant.none

pub returns-clause-goes_on : goal.returns-clause-goes_on
returns-clause-goes_on g c = λ is. let none = c.loop-count.invariant.none in omega (arith, none, is)
