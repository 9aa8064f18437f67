use borrow.Author.Rules.{sfits_of}
use Rattle.std.proofs.Common.{refl, w64, pos, SFits, slice_index_or}
use Rattle.std.proofs.lemmas.List.{take_all}
use Rattle.std.proofs.lemmas.Int.{to_z-of_z}
use Rattle.bitstream_io.proofs.CallerLemmas.{written-begin, written-more, written-stop}
use Rattle.flac_codec.specs.Subframe.{sample_writes}
use Rattle.flac_codec.proofs.numbers.write_samples.Goals as goal

pub loop-sample-init : goal.loop-sample-init
loop-sample-init g c = written-begin g.W.BitWrite.sink (sample_writes g.W.BitWrite.sink.order c.args.width) c.args.samples.now _

pub returns-in_err-write_var : goal.returns-in_err-write_var
returns-in_err-write_var g c =
    let K = g.W.BitWrite.sink in
    let fits : SFits w64 (slice_index_or c.args.samples.now c.loop-sample.sample-index (pos 0)) = search sfits_of in
    let writes = rw (to_z-of_z w64 _ fits) at c.in_err-write_var.ensures.writes in
    written-stop K (sample_writes K.order c.args.width) c.args.samples.now _ _ (pos 0) _ _ _ _ _ c.loop-sample-test.true refl
    c.loop-sample.invariant writes c.from_residual.ensures.1

pub loop-sample-preserved : goal.loop-sample-preserved
loop-sample-preserved g c =
    let K = g.W.BitWrite.sink in
    let fits : SFits w64 (slice_index_or c.args.samples.now c.loop-sample.sample-index (pos 0)) = search sfits_of in
    let writes = rw (to_z-of_z w64 _ fits) at c.in_ok-write_var.ensures.writes in
    written-more K (sample_writes K.order c.args.width) c.args.samples.now _ _ (pos 0) _ _ _ c.loop-sample-test.true refl
    c.loop-sample.invariant writes

pub returns : goal.returns
returns g c = rw (take_all _ c.args.samples.now c.loop-sample-test.false) at c.loop-sample.invariant
