use Rattle.std.proofs.Common.{◌/◌, arith, length, length-set, refl}
use Rattle.bitstream_value.proofs.ArrayLemmas.{items-put}
use Rattle.bitstream_io.specs.SymbolTable.{table_tree}
use Rattle.bitstream_io.proofs.PlaceLemmas.{found_reads, seen_in}
use Rattle.bitstream_io.proofs.symbols.spot.Spot.fill_some.Goals as goal

pub loop-at-init : goal.loop-at-init
loop-at-init g c = record {
  after = omega arith;
  within = c.requires;
  size = refl;
  bytes = refl;
  eight = c.in-Some.ensures;
  place = omega arith;
  reads = λ start refusals h. h;
}

pub find-requires : goal.find-requires
find-requires g c =
    let window = seen_in g.E.Endianness.order c.loop-at.self.bytes.now (c.args.self.now.place / 8) c.loop-at.bit
    c.loop-at.self.place c.in-Some.value c.middle.result c.loop-at.invariant.place
    (omega (arith, c.if-bit-gt53.false)) c.loop-at.invariant.eight c.middle.ensures in
    window.below

pub loop-at-preserved : goal.loop-at-preserved
loop-at-preserved g c =
    let less = c.loop-at-test.true in
    let place = c.loop-at.invariant.place in
    let window = seen_in g.E.Endianness.order c.loop-at.self.bytes.now (c.args.self.now.place / 8) c.loop-at.bit
    c.loop-at.self.place c.in-Some.value c.middle.result place (omega (arith, c.if-bit-gt53.false))
    c.loop-at.invariant.eight c.middle.ensures in
    record {
      after = omega (arith, c.loop-at.invariant.after);
      within = simp length-set (omega (arith, less));
      size = simp length-set c.loop-at.invariant.size;
      bytes = c.loop-at.invariant.bytes;
      eight = c.loop-at.invariant.eight;
      place = omega (arith, place);
      reads = λ start refusals h.
          items-put _ (length c.loop-at.symbols) c.loop-at.at c.loop-at.symbols c.in-Some-find.found.0 less refl
          (c.loop-at.invariant.reads start refusals h)
          (found_reads g.E.Endianness.order (table_tree c.args.table.now) c.loop-at.self.bytes.now c.loop-at.self.place
          c.middle.result c.in-Some-find.found.1 c.in-Some-find.found.0 refusals c.loop-at.self.within _
          c.in-Some-find.ensures.some.0 window c.in-Some-find.ensures.some.1);
    }
