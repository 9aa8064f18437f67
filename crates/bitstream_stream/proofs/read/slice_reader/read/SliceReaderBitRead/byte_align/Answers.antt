use Rattle.bitstream_stream.proofs.Reading.MemoryLemmas.{aligned, align_failed}
use Rattle.std.proofs.Common.{refl}
use Rattle.bitstream_stream.proofs.read.slice_reader.read.SliceReaderBitRead.byte_align.Goals as goal

pub returns-then-not-self : goal.returns-then-not-self
returns-then-not-self g c = record { reads = aligned g.E.Endianness.order _ c.args.self.now _ c.if-not-self.true refl c.go_on.ensures }

pub returns-else-not-self : goal.returns-else-not-self
returns-else-not-self g c = record { reads = align_failed g.E.Endianness.order c.args.self.now c.if-not-self.false }
