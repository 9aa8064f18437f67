use Rattle.std.proofs.Common.{refl, arith}
use Rattle.bitstream_order.proofs.Moving.ShiftLemmas.{shifts_aligned}
use Rattle.bitstream_stream.proofs.Writing.BytesWritten.{sent_bytes, bytes_fault}
use Rattle.bitstream_stream.proofs.Writing.WriterLemmas.{pushes_lost}
use Rattle.bitstream_stream.proofs.write.writer.BitWriter.send_aligned.Goals as goal

pub returns-in-Ok-clause-pushes : goal.returns-in-Ok-clause-pushes
returns-in-Ok-clause-pushes g c =
    let o = g.E.Endianness.order in
    sent_bytes _ o c.args.self.now.queued c.args.self.now.queue _ _ c.args.bytes.now _ _ _ _
    (shifts_aligned o c.args.self.now.queued _ _ c.requires.none) c.in-Ok.ensures c.requires.sound

pub returns-in-Err-clause-pushes : goal.returns-in-Err-clause-pushes
returns-in-Err-clause-pushes g c =
    let o = g.E.Endianness.order in
    pushes_lost _ o _ _ _ _ _ _ c.refuse.ensures.answer c.refuse.ensures.fails
    (bytes_fault _ o c.args.self.now.queued c.args.self.now.queue c.args.bytes.now _ _ _ _ _ _ _ c.in-Err.ensures
    c.args.self.now.few c.requires.some (omega arith) refl)
