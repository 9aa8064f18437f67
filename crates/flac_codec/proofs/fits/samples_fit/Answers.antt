use borrow.Author.Rules.{sfits_of}
use Rattle.std.proofs.Common.{pos, w64, SFits, slice_index_or}
use Rattle.std.proofs.lemmas.Int.{to_z-of_z}
use Rattle.std.proofs.lemmas.List.{take_all}
use Rattle.std.proofs.lemmas.List.Elements.{All-get_or, All-more}
use Rattle.bitstream_io.specs.Callers.{FitsSignedBits}
use Rattle.flac_codec.proofs.fits.samples_fit.Goals as goal

pub returns-then-not-sample_fits : goal.returns-then-not-sample_fits
returns-then-not-sample_fits c =
    let fits : SFits w64 (slice_index_or c.args.samples.now c.loop-sample.sample-index (pos 0)) = search sfits_of in
    let small = rw (to_z-of_z w64 _ fits) at c.sample_fits.ensures in (
      λ yes. absurd (cc),
      λ all.
          let here = small.1 (All-get_or (FitsSignedBits c.args.width) c.args.samples.now c.loop-sample.sample-index (pos 0)
          c.loop-sample-test.true all) in
          cc,
    )

pub loop-sample-preserved : goal.loop-sample-preserved
loop-sample-preserved c =
    let fits : SFits w64 (slice_index_or c.args.samples.now c.loop-sample.sample-index (pos 0)) = search sfits_of in
    let small = rw (to_z-of_z w64 _ fits) at c.sample_fits.ensures in
    All-more (FitsSignedBits c.args.width) c.args.samples.now c.loop-sample.sample-index (pos 0) c.loop-sample-test.true
    c.loop-sample.invariant (small.0 c.if-not-sample_fits.false)

pub returns : goal.returns
returns c = let all = rw (take_all _ c.args.samples.now c.loop-sample-test.false) at c.loop-sample.invariant in (λ yes. all, λ given. cc)
