use Rattle.std.proofs.Common.{arith, ◌≡◌, take, ap}
use Rattle.bitstream_stream.proofs.Reading.MemoryLemmas.{whole_failed, whole_read, whole_refused, behind_byte}
use Rattle.bitstream_stream.specs.Reading.MemoryState.{held_there}
use Rattle.bitstream_stream.proofs.read.slice_reader.SliceReader.take_bytes.Goals as goal

pub returns-then-self-clause-reads : goal.returns-then-self-clause-reads
returns-then-self-clause-reads g c = whole_failed g.E.Endianness.order c.args.count c.args.self.now c.if-self.true

pub go_on-requires-clause-enough : goal.go_on-requires-clause-enough
go_on-requires-clause-enough g c =
    let there = held_there c.args.self.now.bytes.now c.args.self.now.bit c.args.self.now.few c.args.self.now.some in
    omega (arith, there, c.args.self.now.few)

pub returns-then-bytes-count-clause-reads : goal.returns-then-bytes-count-clause-reads
returns-then-bytes-count-clause-reads g c =
    rw c.refuse.ensures.error
    (whole_refused g.E.Endianness.order c.args.count c.args.self.now _ _ c.if-self.false c.go_on.ensures
    c.if-bytes-count.true c.refuse.ensures.state)

pub go_bytes-requires : goal.go_bytes-requires
go_bytes-requires g c =
    let whole : c.go_on.new.self.bit ≡ 0 = omega (arith, c.go_on.ensures.bit, c.args.self.now.few) in
    omega (arith, whole, c.if-bytes-count.false)

pub returns-clause-reads : goal.returns-clause-reads
returns-clause-reads g c =
    whole_read g.E.Endianness.order c.args.count c.args.self.now _ _ c.if-self.false c.go_on.ensures c.go_bytes.ensures

pub returns-clause-bytes : goal.returns-clause-bytes
returns-clause-bytes g c = λ known told. ap (take c.args.count) (behind_byte known c.args.self.now _ c.go_on.ensures told)
