use Rattle.std.proofs.Common.{◌∙◌, ◌+◌, ◌*◌, ◌^◌, ◌<◌, ◌∷◌, [], ap, refl, rules}
use Rattle.bitstream_io.specs.Callers.{High, bit, unsigned}
use Rattle.bitstream_io.specs.Growing.{growing_stream}
use Rattle.bitstream_io.specs.Writer.{writer_sink}
use Rattle.bitstream_io.proofs.CallerLemmas.{bit-written, packs-more, packs-none, packs-whole, unsigned-accepted, unsigned-written}
use Rattle.bitstream_io.proofs.WriteParts.{all_append, all_one, all_stop}
use Rattle.bitstream_io.proofs.WriteSteps.{packed_stream}
use Rattle.bitstream_callers.specs.Telemetry.{IsMisfitOrMemory, heartbeat_writes}
use Rattle.bitstream_callers.proofs.TelemetryLemmas.{done_accepted, failed_align, failed_write, growth, if_error}
use Rattle.bitstream_callers.proofs.telemetry.heartbeat.Goals as goal

pub returns : goal.returns
returns c =
    let all = all_append (writer_sink growing_stream High) (unsigned High 8 7 c.args.number ∷ []) (bit c.args.well ∷ []) _ _ _ _
    c.in_ok-write.ensures.writes
    (all_one (writer_sink growing_stream High) (bit c.args.well) _ _ _ c.in_ok-write_bit.ensures.writes) in
    let accepted = done_accepted (writer_sink growing_stream High) refl growth (heartbeat_writes c.args.number c.args.well)
    c.new-writer.result (ap (λ s. 8 * s.port.sent + s.queued) c.new-writer.ensures)
    (ap (λ s. s.failed) c.new-writer.ensures) _ all in
    let small : c.args.number < 2 ^ 7 = unsigned-accepted High 8 7 c.args.number _ refl accepted.0 in
    let packed = packed_stream _ _ (heartbeat_writes c.args.number c.args.well) c.new-writer.result (cc)
    c.new-writer.ensures all c.in_ok-byte_align.ensures.writes in
    let whole = packed.whole refl ∙ packs-whole (packs-more (unsigned-written High 8 7 c.args.number refl small)
    (packs-more (bit-written c.args.well) packs-none)) refl in
    search rules

pub returns-in_err-write-clause-refused : goal.returns-in_err-write-clause-refused
returns-in_err-write-clause-refused c =
    if_error _ _ (IsMisfitOrMemory (heartbeat_writes c.args.number c.args.well)) c.from_residual.ensures.1
    (failed_write (writer_sink growing_stream High) refl growth (heartbeat_writes c.args.number c.args.well)
    c.new-writer.result (ap (λ s. 8 * s.port.sent + s.queued) c.new-writer.ensures)
    (ap (λ s. s.failed) c.new-writer.ensures) _ _
    (all_stop (writer_sink growing_stream High) (unsigned High 8 7 c.args.number ∷ []) (bit c.args.well ∷ []) _ _ _ _ refl
    c.in_err-write.ensures.writes))

pub returns-in_err-write_bit-clause-refused : goal.returns-in_err-write_bit-clause-refused
returns-in_err-write_bit-clause-refused c =
    if_error _ _ (IsMisfitOrMemory (heartbeat_writes c.args.number c.args.well)) c.from_residual-in_err-write_bit.ensures.1
    (failed_write (writer_sink growing_stream High) refl growth (heartbeat_writes c.args.number c.args.well)
    c.new-writer.result (ap (λ s. 8 * s.port.sent + s.queued) c.new-writer.ensures)
    (ap (λ s. s.failed) c.new-writer.ensures) _ _
    (all_append (writer_sink growing_stream High) (unsigned High 8 7 c.args.number ∷ []) (bit c.args.well ∷ []) _ _ _ _
    c.in_ok-write.ensures.writes
    (all_one (writer_sink growing_stream High) (bit c.args.well) _ _ _ c.in_err-write_bit.ensures.writes)))

pub returns-in_err-byte_align-clause-refused : goal.returns-in_err-byte_align-clause-refused
returns-in_err-byte_align-clause-refused c =
    let all = all_append (writer_sink growing_stream High) (unsigned High 8 7 c.args.number ∷ []) (bit c.args.well ∷ []) _ _ _ _
    c.in_ok-write.ensures.writes
    (all_one (writer_sink growing_stream High) (bit c.args.well) _ _ _ c.in_ok-write_bit.ensures.writes) in
    if_error _ _ (IsMisfitOrMemory (heartbeat_writes c.args.number c.args.well)) c.from_residual-in_err-byte_align.ensures.1
    (failed_align (writer_sink growing_stream High) refl growth (heartbeat_writes c.args.number c.args.well)
    c.new-writer.result (ap (λ s. 8 * s.port.sent + s.queued) c.new-writer.ensures)
    (ap (λ s. s.failed) c.new-writer.ensures) _ _ _ all
    c.in_err-byte_align.ensures.writes)
