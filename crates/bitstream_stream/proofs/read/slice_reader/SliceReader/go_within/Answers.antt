use Rattle.std.proofs.Common.{◌*◌, ◌≤◌, length, refl, arith}
use Rattle.bitstream_stream.specs.Reading.MemorySeek.{GoesWithin}
use Rattle.bitstream_stream.proofs.Reading.MemorySeeks.{stands}
use Rattle.bitstream_stream.proofs.read.slice_reader.SliceReader.go_within.Goals as goal

pub returns-else-place-self : goal.returns-else-place-self
returns-else-place-self g c =
    let within : c.in-Some.place ≤ 8 * length c.args.self.now.all.now = omega (arith, c.if-place-self.false) in
    GoesWithin.was_done c.in-Some.place c.in-Some.is within refl
    (stands g.E.Endianness.order c.in-Some.place c.args.self.now _ within c.stand_at.ensures)
