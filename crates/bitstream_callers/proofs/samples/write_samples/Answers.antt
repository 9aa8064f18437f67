use Rattle.bitstream_io.proofs.CallerLemmas.{refl, written-begin, written-more, written-stop}
use Rattle.bitstream_callers.specs.Samples.{sample_writes}
use Rattle.bitstream_callers.proofs.samples.write_samples.Goals as goal

pub loop-sample-init : goal.loop-sample-init
loop-sample-init g c = written-begin g.W.BitWrite.sink (sample_writes g.W.BitWrite.sink.order) c.args.samples.now _

pub returns-in_err-write : goal.returns-in_err-write
returns-in_err-write g c =
    let K = g.W.BitWrite.sink in
    written-stop K (sample_writes K.order) c.args.samples.now _ _ 0 _ _ _ _ _ c.loop-sample-test.true refl
    c.loop-sample.invariant c.in_err-write.ensures.writes c.from_residual.ensures.1

pub loop-sample-preserved : goal.loop-sample-preserved
loop-sample-preserved g c =
    let K = g.W.BitWrite.sink in
    written-more K (sample_writes K.order) c.args.samples.now _ _ 0 _ _ _ c.loop-sample-test.true refl
    c.loop-sample.invariant c.in_ok-write.ensures.writes
