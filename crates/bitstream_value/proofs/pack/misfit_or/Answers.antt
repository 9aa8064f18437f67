use Rattle.std.proofs.Common.{◌≡◌, ◌∙◌, ◌+◌, ◌*◌, Ok, Err, ap, refl, sym, false}
use Rattle.bitstream_value.specs.Lengths.{sequence_length}
use Rattle.bitstream_value.specs.PackInto.{discard_stream, error_or}
use Rattle.bitstream_stream.specs.Writing.Writer.{writer_sink}
use Rattle.bitstream_value.proofs.LengthLemmas.{grown_by}
use Rattle.bitstream_value.proofs.PackIntoLemmas.{sure_error, written_as}
use Rattle.bitstream_value.proofs.pack.misfit_or.Goals as goal

pub returns-in-Ok : goal.returns-in-Ok
returns-in-Ok g c =
    let K = writer_sink discard_stream g.E.Endianness.order in
    let es = g.T.ToBitStream.writes g.E.Endianness.order c.args.value.now in
    let start = ap (λ s. 8 * s.port.sent + s.queued) c.new-writer.ensures in
    let all = grown_by K es _ _ (written_as K c.requires.same _ c.requires.plain es _ _ _ c.in-Ok.ensures.writes) in
    sym (ap (λ n. error_or (sequence_length es n) c.args.other) (sym start) ∙ ap (λ x. error_or x c.args.other) all.1)

pub returns-in-Err : goal.returns-in-Err
returns-in-Err g c =
    let K = writer_sink discard_stream g.E.Endianness.order in
    let es = g.T.ToBitStream.writes g.E.Endianness.order c.args.value.now in
    let start = ap (λ s. 8 * s.port.sent + s.queued) c.new-writer.ensures in
    let sound = ap (λ s. s.failed) c.new-writer.ensures in
    let all = sure_error K refl (λ x may. may.refused) es _ _ _ sound
    (written_as K c.requires.same _ c.requires.plain es _ _ _ c.in-Err.ensures.writes) in
    sym (ap (λ n. error_or (sequence_length es n) c.args.other) (sym start) ∙ ap (λ x. error_or x c.args.other) all)
