use Rattle.bitstream_io.proofs.CallerLemmas.{ItemsWritten}
use Rattle.bitstream_callers.specs.Samples.{sample_writes}
use Rattle.bitstream_callers.proofs.samples.write_samples.Given as goal

-- the samples so far were written
abbrev pub invariant-loop-sample : goal.invariant-loop-sample
invariant-loop-sample g l =
    let K = g.W.BitWrite.sink in
    ItemsWritten K (sample_writes K.order) l.samples l.sample-index l.initial.writer l.writer
