use Rattle.std.proofs.Common.{arith, ◌≤◌, ◌<◌, ◌^◌, ◌+◌, ◌*◌, length, refl}
use Rattle.bitstream_count.specs.Unary.{lead}
use Rattle.bitstream_stream.specs.Reading.Memory.{rest_bits}
use Rattle.bitstream_stream.proofs.Reading.MemoryLemmas.{run_read, run_refused, run_failed, run_long}
use Rattle.bitstream_stream.proofs.Reading.MemoryRuns.{run_within}
use Rattle.bitstream_stream.proofs.read.slice_reader.SliceReader.read_run.Goals as goal

pub returns-then-self-clause-reads : goal.returns-then-self-clause-reads
returns-then-self-clause-reads g c = run_failed g.E.Endianness.order c.args.stop c.args.self.now c.if-self.true

pub go_to-requires-clause-enough : goal.go_to-requires-clause-enough
go_to-requires-clause-enough g c =
    let within = run_within g.E.Endianness.order c.args.stop c.args.self.now.bytes.now c.args.self.now.bit _
    c.run_length-run.ensures in
    omega (arith, within, c.if-run.true)

pub returns-then-run-clause-reads : goal.returns-then-run-clause-reads
returns-then-run-clause-reads g c =
    let o = g.E.Endianness.order in
    let long : 2 ^ 32 ≤ lead c.args.stop (rest_bits o c.args.self.now.bytes.now c.args.self.now.bit) =
    omega (arith, c.run_length-run.ensures, c.if-run.true) in
    run_long o c.args.stop c.args.self.now c.go_to.new.self _ c.if-self.false long (c.go_to.ensures (2 ^ 32) refl) refl

pub returns-then-run-most-clause-reads : goal.returns-then-run-most-clause-reads
returns-then-run-most-clause-reads g c =
    let none : 8 * length c.args.self.now.bytes.now ≤ c.args.self.now.bit + c.run_length-run.result =
    omega (arith, c.if-run-most.true) in
    let small : c.run_length-run.result < 2 ^ 32 = omega (arith, c.if-run.false) in
    rw c.refuse.ensures.error
    (run_refused g.E.Endianness.order c.args.stop _ c.args.self.now _ c.if-self.false c.run_length-run.ensures small none
    c.refuse.ensures.state)

pub returns-clause-reads : goal.returns-clause-reads
returns-clause-reads g c =
    let small : c.run_length-run.result < 2 ^ 32 = omega (arith, c.if-run.false) in
    run_read g.E.Endianness.order c.args.stop _ c.args.self.now _ c.if-self.false c.run_length-run.ensures small
    (c.go_to-2.ensures (c.run_length-run.result + 1) (omega arith))
