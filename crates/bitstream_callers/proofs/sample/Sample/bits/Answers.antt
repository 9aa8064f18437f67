use Rattle.std.proofs.Common.{◌≡◌, ◌∙◌, Err, arith, refl}
use Rattle.bitstream_io.specs.Callers.{High, sequence_length}
use Rattle.bitstream_io.proofs.SequenceLemmas.{counted}
use Rattle.bitstream_callers.specs.Sample.{sample_writes}
use Rattle.bitstream_callers.proofs.SampleLemmas.{sample_fits}
use Rattle.bitstream_callers.proofs.TelemetryLemmas.{counted_accepted, counted_error, if_error, sample-most}
use Rattle.bitstream_callers.proofs.sample.Sample.bits.Goals as goal

pub returns-clause-count : goal.returns-clause-count
returns-clause-count c = c.into_written.ensures ∙ counted _ (sample_writes High c.args.self.now) _ _ refl c.new-counter.ensures
    c.in_ok-write.ensures

pub returns-clause-fits : goal.returns-clause-fits
returns-clause-fits c = λ done.
    sample_fits High c.args.self.now 0 (counted_accepted _ (sample_writes High c.args.self.now) _ _
    c.new-counter.ensures c.in_ok-write.ensures)

pub returns-in_err-write-clause-refused : goal.returns-in_err-write-clause-refused
returns-in_err-write-clause-refused c =
    let es = sample_writes High c.args.self.now in
    if_error _ _ (λ error. sequence_length es 0 ≡ Err error) c.from_residual.ensures.1
    (counted_error _ 255 refl (λ x may. may) es _ _ _ c.new-counter.ensures refl
    (record { most = λ len. let few = (sample-most c.args.self.now).most len in omega (arith, few) }) c.in_err-write.ensures)
