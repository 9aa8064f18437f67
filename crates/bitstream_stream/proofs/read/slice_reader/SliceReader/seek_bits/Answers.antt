use Rattle.std.proofs.Common.{rules, ◌≡◌, Some, refl, to_z, of_z, w64}
use Rattle.bitstream_stream.specs.Reading.MemorySeek.{SeeksInMemory}
use Rattle.bitstream_stream.proofs.Reading.MemorySeeks.{means_start, means_back, means_on}
use Rattle.bitstream_stream.proofs.read.slice_reader.SliceReader.seek_bits.Goals as goal

pub returns-in-Start : goal.returns-in-Start
returns-in-Start g c =
    rw c.in-Start.is (SeeksInMemory.was_meant (Some c.in-Start.place) (λ h. absurd h)
    (means_start g.E.Endianness.order c.in-Start.place c.args.self.now (search rules)) c.go_within.ensures)

pub returns-in-End : goal.returns-in-End
returns-in-End g c =
    let kept : to_z w64 (of_z w64 c.in-End.back) ≡ c.in-End.back = search rules in
    rw c.in-End.is (SeeksInMemory.was_meant c.bit_place.result (λ h. absurd h)
    (means_back g.E.Endianness.order c.in-End.back c.bit_place.result c.args.self.now (rw kept at c.bit_place.ensures))
    c.go_within-in-End.ensures)

pub returns-else-self : goal.returns-else-self
returns-else-self g c =
    let kept : to_z w64 (of_z w64 c.in-Current.on) ≡ c.in-Current.on = search rules in
    rw c.in-Current.is (SeeksInMemory.was_meant c.bit_place-place.result (λ _. c.if-self.false)
    (means_on g.E.Endianness.order c.in-Current.on c.fetched.result _ c.bit_place-place.result c.args.self.now
    c.if-self.false c.fetched.ensures refl (rw kept at c.bit_place-place.ensures))
    c.go_within-in-Current.ensures)
