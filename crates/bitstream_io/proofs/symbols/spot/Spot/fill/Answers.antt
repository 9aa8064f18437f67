use Rattle.std.proofs.Common.{◌∙◌, arith, refl}
use Rattle.bitstream_io.proofs.symbols.spot.Spot.fill.Goals as goal

pub loop-at-init : goal.loop-at-init
loop-at-init g c = record {
  after = omega arith;
  within = c.requires;
  size = refl;
  bytes = refl;
  reads = λ start refusals h. h;
}

pub loop-at-preserved : goal.loop-at-preserved
loop-at-preserved g c =
    let kept = c.fill_some-next.auto.symbols in
    record {
      after = omega (arith, c.loop-at.invariant.after, c.fill_some-next.ensures.after);
      within = omega (arith, c.fill_some-next.ensures.within, kept);
      size = kept ∙ c.loop-at.invariant.size;
      bytes = c.fill_some-next.ensures.bytes ∙ c.loop-at.invariant.bytes;
      reads = λ start refusals h.
          c.fill_some-next.ensures.reads start refusals (c.loop-at.invariant.reads start refusals h);
    }
