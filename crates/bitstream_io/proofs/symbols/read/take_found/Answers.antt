use Rattle.std.proofs.Common.{◌≡◌, ◌∙◌, ap, refl, sym}
use Rattle.bitstream_stream.specs.Reading.Memory.{taken_bits}
use Rattle.bitstream_stream.specs.Reading.MemorySource.{memory_source}
use Rattle.bitstream_io.specs.Places.{Place, place_source, state_at}
use Rattle.bitstream_io.proofs.PlaceLemmas.{at_within, carried, is_at, same_refusals}
use Rattle.bitstream_io.proofs.symbols.read.take_found.Goals as goal

pub go_to-requires : goal.go_to-requires
go_to-requires g c = c.in-Some.ensures.some.bytes ∙ sym c.fill-end.ensures.bytes

pub returns-clause-reads : goal.returns-clause-reads
returns-clause-reads g c = λ start h.
    let o = g.E.Endianness.order in
    let old = c.args.reader.now in
    let new = c.go_to.new.reader in
    let spot = c.fill-end.new.self in
    let left = c.in-Some.ensures.some in
    let begun = same_refusals {K = memory_source o} left.fine h in
    let x : Place = record {
      bytes = start.all.now;
      bit = taken_bits start.all.now start.bytes.now start.bit;
      within = at_within start;
      refusals = start.refusals.list;
    } in
    let from : (memory_source o).state start ≡ (place_source o).state x =
    is_at o start start.all.now (taken_bits start.all.now start.bytes.now start.bit) start.refusals.list begun.0 refl
    refl refl in
    let filled = c.fill-end.ensures.reads x old.refusals.list
    (carried {K = memory_source o} {L = place_source o} x _ refl from left.state h) in
    let there : (memory_source o).state new ≡ state_at o spot.bytes.now spot.place old.refusals.list =
    c.go_to.ensures ∙ ap (state_at o spot.bytes.now spot.place) left.refusals in
    carried {K = place_source o} {L = memory_source o} start new refl (sym from) (sym there) filled
