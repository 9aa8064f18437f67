use Rattle.std.proofs.Common.{◌∙◌, ◌+◌, ◌*◌, ap, refl, rules}
use Rattle.bitstream_io.specs.Growing.{growing_stream}
use Rattle.bitstream_io.specs.Word.{High}
use Rattle.bitstream_io.specs.Writer.{writer_sink}
use Rattle.bitstream_io.proofs.WriteSteps.{packed_stream}
use Rattle.bitstream_callers.specs.Sample.{sample_writes}
use Rattle.bitstream_callers.specs.Telemetry.{IsMisfitOrMemory}
use Rattle.bitstream_callers.proofs.SampleLemmas.{sample_fits, told}
use Rattle.bitstream_callers.proofs.TelemetryLemmas.{done_accepted, failed_align, failed_write, growth, if_error}
use Rattle.bitstream_callers.proofs.sample.Sample.pack.Goals as goal

pub returns-clause-packed : goal.returns-clause-packed
returns-clause-packed c =
    let packed = packed_stream _ _ (sample_writes High c.args.self.now) c.new-writer.result (cc) c.new-writer.ensures
    c.in_ok-write.ensures c.in_ok-byte_align.ensures.writes in
    let whole = packed.whole refl ∙ told c.args.self.now in
    search rules

pub returns-clause-fits : goal.returns-clause-fits
returns-clause-fits c = λ done.
    sample_fits High c.args.self.now 0 (done_accepted (writer_sink growing_stream High) refl growth (sample_writes High c.args.self.now)
    c.new-writer.result (ap (λ s. 8 * s.port.sent + s.queued) c.new-writer.ensures)
    (ap (λ s. s.failed) c.new-writer.ensures) _
    c.in_ok-write.ensures)

pub returns-in_err-write-clause-refused : goal.returns-in_err-write-clause-refused
returns-in_err-write-clause-refused c =
    let es = sample_writes High c.args.self.now in
    if_error _ _ (IsMisfitOrMemory es) c.from_residual.ensures.1
    (failed_write (writer_sink growing_stream High) refl growth (sample_writes High c.args.self.now)
    c.new-writer.result (ap (λ s. 8 * s.port.sent + s.queued) c.new-writer.ensures)
    (ap (λ s. s.failed) c.new-writer.ensures) _ _
    c.in_err-write.ensures)

pub returns-in_err-byte_align-clause-refused : goal.returns-in_err-byte_align-clause-refused
returns-in_err-byte_align-clause-refused c =
    let es = sample_writes High c.args.self.now in
    if_error _ _ (IsMisfitOrMemory es) c.from_residual-in_err-byte_align.ensures.1
    (failed_align (writer_sink growing_stream High) refl growth (sample_writes High c.args.self.now)
    c.new-writer.result (ap (λ s. 8 * s.port.sent + s.queued) c.new-writer.ensures)
    (ap (λ s. s.failed) c.new-writer.ensures) _ _ _
    c.in_ok-write.ensures c.in_err-byte_align.ensures.writes)
