use Rattle.std.proofs.Common.{Err, ap, sym, ◌∙◌}
use Rattle.std.proofs.lemmas.Bool.{false≢true}
use Rattle.std.proofs.lemmas.Result.{err_from_is_err_and}
use Rattle.bitstream_order.specs.Streaming.Growing.{growing_bytes}
use Rattle.bitstream_sink.proofs.RecorderLemmas.{play_stops, plays, played}
use Rattle.bitstream_sink.proofs.recorder.BitRecorder.playback.Goals as goal

pub returns-in_err-write_bytes-clause-writes : goal.returns-in_err-write_bytes-clause-writes
returns-in_err-write_bytes-clause-writes g c sound =
    let p = err_from_is_err_and c.from_residual.result c.from_residual.ensures.1 in
    play_stops g.W.BitWrite.sink _ _ (c.as_slice.ensures ∙ ap growing_bytes c.stream.ensures) _ _ _ _ _ (p.1
    ∙ ap Err p.2) c.in_err-write_bytes.ensures.writes

pub returns-clause-writes : goal.returns-clause-writes
returns-clause-writes g c sound =
    plays g.W.BitWrite.sink _ _ (c.as_slice.ensures ∙ ap growing_bytes c.stream.ensures) _ _ _ _ _ _ _ _
    c.queued.ensures.bits c.queue.ensures.number c.in_ok-write_bytes.ensures.writes
    c.write_unsigned_var.ensures.writes

pub returns-clause-same_order : goal.returns-clause-same_order
returns-clause-same_order g c same =
    played g.W.BitWrite.sink _ _ (c.as_slice.ensures ∙ ap growing_bytes c.stream.ensures) _ _ _ _ _ _ _ _
    c.queued.ensures.bits c.queue.ensures.number c.in_ok-write_bytes.ensures.writes
    c.write_unsigned_var.ensures.writes
    g.E.Endianness.order c.queued.ensures.few c.queue.ensures.small same

pub returns-in_err-write_bytes-clause-failed : goal.returns-in_err-write_bytes-clause-failed
returns-in_err-write_bytes-clause-failed g c fault =
    absurd (false≢true (sym c.if-failed.false ∙ c.failed.ensures ∙ fault))

pub returns-clause-failed : goal.returns-clause-failed
returns-clause-failed g c fault = absurd (false≢true (sym c.if-failed.false ∙ c.failed.ensures ∙ fault))
