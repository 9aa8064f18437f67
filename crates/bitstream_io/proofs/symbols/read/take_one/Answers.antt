use Rattle.std.proofs.Common.{◌≡◌, ◌∙◌, ap, refl, sym}
use Rattle.bitstream_stream.specs.Reading.MemorySource.{memory_source}
use Rattle.bitstream_io.specs.Places.{place_source, state_at}
use Rattle.bitstream_io.specs.declared.symbols.spot.Spot.{Spot}
use Rattle.bitstream_io.proofs.PlaceLemmas.{carried, some_weaker}
use Rattle.bitstream_io.proofs.symbols.read.take_one.Goals as goal

pub go_to-requires : goal.go_to-requires
go_to-requires g c = c.in_ok-spot.ensures.some.bytes ∙ sym c.next-symbol.ensures.bytes

pub returns-clause-some : goal.returns-clause-some
returns-clause-some g c =
    let o = g.E.Endianness.order in
    let old = c.args.reader.now in
    let new = c.go_to.new.reader in
    let spot = c.next-symbol.new.self in
    let left = c.in_ok-spot.ensures.some in
    let there : (memory_source o).state new ≡ state_at o spot.bytes.now spot.place old.refusals.list =
    c.go_to.ensures ∙ ap (state_at o spot.bytes.now spot.place) left.refusals in
    some_weaker c.next-symbol.result (λ symbol reads.
    carried {K = place_source o} {L = memory_source o} old new refl (sym left.state) (sym there)
    (reads old.refusals.list)) c.next-symbol.ensures.some

pub returns-clause-none : goal.returns-clause-none
returns-clause-none g c = λ none.
    let o = g.E.Endianness.order in
    let old = c.args.reader.now in
    let spot = c.next-symbol.new.self in
    let left = c.in_ok-spot.ensures.some in
    c.go_to.ensures ∙ ap (state_at o spot.bytes.now spot.place) left.refusals
    ∙ ap (λ (s : Spot). state_at o s.bytes.now s.place old.refusals.list) (c.next-symbol.ensures.none none)
    ∙ sym left.state
