use Rattle.std.proofs.Common.{◌∷◌, [], ◌+◌, ◌*◌, ◌^◌, ◌<◌, ap, arith, inl, inr, refl, rules}
use Rattle.bitstream_io.specs.Fault.{refusal_of}
use Rattle.bitstream_io.specs.Growing.{growing_stream}
use Rattle.bitstream_io.specs.Lent.{lent_output}
use Rattle.bitstream_io.specs.Word.{High}
use Rattle.bitstream_io.specs.Writer.{writer_sink}
use Rattle.bitstream_io.specs.WriteTable.{unsigned}
use Rattle.bitstream_io.proofs.CallerLemmas.{packs-more, packs-none, unsigned-written}
use Rattle.bitstream_io.proofs.WriteParts.{all_append}
use Rattle.bitstream_io.proofs.WriteSteps.{packed_stream, first_name}
use Rattle.bitstream_callers.specs.Sample.{sample_writes}
use Rattle.bitstream_callers.specs.Telemetry.{IsMisfitOrMemory}
use Rattle.bitstream_callers.proofs.SampleLemmas.{sample_packs}
use Rattle.bitstream_callers.proofs.TelemetryLemmas.{failed_align, failed_write, if_error, only_memory, sample-most}
use Rattle.bitstream_callers.proofs.sample.Sample.frame.Goals as goal

pub returns-clause-packed : goal.returns-clause-packed
returns-clause-packed c =
    let fields = sample_writes High c.args.self.now in
    let all = all_append _ _ fields _ _ _ _ c.in_ok-write.ensures.writes c.in_ok-write-2.ensures in
    let packed = packed_stream _ _ (unsigned High 8 8 c.in_ok-size.size ∷ fields) c.new-writer.result (cc)
    c.new-writer.ensures all c.in_ok-byte_align.ensures.writes in
    let whole = packed.whole refl in
    let name = first_name packed.reached_as in
    search rules

pub returns-clause-fits : goal.returns-clause-fits
returns-clause-fits c = λ done. c.in_ok-size.ensures.fits refl

pub returns-in_err-size-clause-refused : goal.returns-in_err-size-clause-refused
returns-in_err-size-clause-refused c =
    if_error _ _ (IsMisfitOrMemory (sample_writes High c.args.self.now)) c.from_residual.ensures.1
    (inl c.in_err-size.ensures.refused)

pub returns-in_err-write-clause-refused : goal.returns-in_err-write-clause-refused
returns-in_err-write-clause-refused c =
    let size = c.in_ok-size.size in
    let few = (sample-most c.args.self.now).most 0 in
    let small : size < 2 ^ 8 = let is = c.in_ok-size.ensures.count in omega (arith, few, is) in
    if_error _ _ (IsMisfitOrMemory (sample_writes High c.args.self.now)) c.from_residual-in_err-write.ensures.1
    (inr (only_memory (unsigned High 8 8 size ∷ []) _
    ((packs-more (unsigned-written High 8 8 size refl small) packs-none).accepted 0)
    (failed_write (writer_sink (lent_output growing_stream) High) refl (λ x may. ap refusal_of may.refused.memory)
    (unsigned High 8 8 size ∷ []) c.new-writer.result (ap (λ s. 8 * s.port.sent + s.queued) c.new-writer.ensures)
    (ap (λ s. s.failed) c.new-writer.ensures) _ _ c.in_err-write.ensures.writes)))

pub returns-in_err-write-2-clause-refused : goal.returns-in_err-write-2-clause-refused
returns-in_err-write-2-clause-refused c =
    let size = c.in_ok-size.size in
    let fields = sample_writes High c.args.self.now in
    let few = (sample-most c.args.self.now).most 0 in
    let small : size < 2 ^ 8 = let is = c.in_ok-size.ensures.count in omega (arith, few, is) in
    let packs = packs-more (unsigned-written High 8 8 size refl small)
    (sample_packs High c.args.self.now (c.in_ok-size.ensures.fits refl)) in
    if_error _ _ (IsMisfitOrMemory fields) c.from_residual-in_err-write-2.ensures.1
    (inr (only_memory (unsigned High 8 8 size ∷ fields) _ (packs.accepted 0)
    (failed_write (writer_sink (lent_output growing_stream) High) refl (λ x may. ap refusal_of may.refused.memory)
    (unsigned High 8 8 size ∷ fields) c.new-writer.result (ap (λ s. 8 * s.port.sent + s.queued) c.new-writer.ensures)
    (ap (λ s. s.failed) c.new-writer.ensures) _ _
    (all_append _ _ fields _ _ _ _ c.in_ok-write.ensures.writes c.in_err-write-2.ensures))))

pub returns-in_err-byte_align-clause-refused : goal.returns-in_err-byte_align-clause-refused
returns-in_err-byte_align-clause-refused c =
    let size = c.in_ok-size.size in
    let fields = sample_writes High c.args.self.now in
    let few = (sample-most c.args.self.now).most 0 in
    let small : size < 2 ^ 8 = let is = c.in_ok-size.ensures.count in omega (arith, few, is) in
    let packs = packs-more (unsigned-written High 8 8 size refl small)
    (sample_packs High c.args.self.now (c.in_ok-size.ensures.fits refl)) in
    let all = all_append _ _ fields _ _ _ _ c.in_ok-write.ensures.writes c.in_ok-write-2.ensures in
    if_error _ _ (IsMisfitOrMemory fields) c.from_residual-in_err-byte_align.ensures.1
    (inr (only_memory (unsigned High 8 8 size ∷ fields) _ (packs.accepted 0)
    (failed_align (writer_sink (lent_output growing_stream) High) refl (λ x may. ap refusal_of may.refused.memory)
    (unsigned High 8 8 size ∷ fields) c.new-writer.result (ap (λ s. 8 * s.port.sent + s.queued) c.new-writer.ensures)
    (ap (λ s. s.failed) c.new-writer.ensures) _ _ _ all c.in_err-byte_align.ensures.writes)))
