use Rattle.std.proofs.Common.{arith, ◌*◌, ◌+◌, ◌<◌, length, refl}
use Rattle.bitstream_stream.proofs.Reading.MemoryLemmas.{skipped, skip_refused, skip_failed}
use Rattle.bitstream_stream.proofs.read.slice_reader.read.SliceReaderBitRead.skip.Goals as goal

pub returns-then-self-clause-reads : goal.returns-then-self-clause-reads
returns-then-self-clause-reads g c = skip_failed g.E.Endianness.order c.args.bits c.args.self.now c.if-self.true

pub returns-then-total-bytes-clause-reads : goal.returns-then-total-bytes-clause-reads
returns-then-total-bytes-clause-reads g c =
    let short : 8 * length c.args.self.now.bytes.now < c.args.self.now.bit + c.args.bits =
    omega (arith, c.if-total-bytes.true) in
    rw c.refuse.ensures.error (skip_refused g.E.Endianness.order c.args.bits c.args.self.now _ c.if-self.false short
    c.refuse.ensures.state)

pub returns-clause-reads : goal.returns-clause-reads
returns-clause-reads g c = skipped g.E.Endianness.order c.args.bits c.args.self.now _ c.if-self.false
    (c.go_to.ensures c.args.bits refl)
