-- Made by `./format` from formats/packet.fields: edit that file and make this one anew.
use Rattle.bitstream_messages.specs.Packet.{ack_ended}
use Rattle.bitstream_messages.specs.Ack.{ack_decoder}
use Rattle.bitstream_format.proofs.WithinLemmas.{within-ok, within-err}
use Rattle.bitstream_messages.specs.declared.packet.PacketError.TheVariants.{Reader, OtherAck}
use Rattle.std.proofs.Common.{true, false, refl, sym}
use Rattle.bitstream_io.proofs.CallerLemmas.{inl, slice_ends, grown}
use Rattle.bitstream_io.proofs.GrowsLemmas.{go_grown, stop_grown, grown_end}
use Rattle.bitstream_io.specs.Callers.{High, plain_reads}
use Rattle.bitstream_messages.proofs.packet.ack_in.Goals as goal

pub returns-then-is_at_end : goal.returns-then-is_at_end
returns-then-is_at_end c = inl (sym (within-ok OtherAck (λ error. Reader error) ack_ended {e = plain_reads (ack_decoder
    High)} c.over-inside.ensures.state c.in-Ok.found true (go_grown _ (grown c.in-Ok.ensures) (grown_end _ _))
    c.if-is_at_end.ensures.left))

pub returns-else-is_at_end : goal.returns-else-is_at_end
returns-else-is_at_end c = inl (sym (within-ok OtherAck (λ error. Reader error) ack_ended {e = plain_reads (ack_decoder
    High)} c.over-inside.ensures.state c.in-Ok.found false (go_grown _ (grown c.in-Ok.ensures) (grown_end _ _))
    c.if-is_at_end.ensures.left))

pub returns-in-Err : goal.returns-in-Err
returns-in-Err c = rw (c.ack_ended.ensures, c.from.ensures) (within-err OtherAck (λ error. Reader error) ack_ended {e =
    plain_reads (ack_decoder High)} c.over-inside.ensures.state slice_ends refl refl (stop_grown _ (grown
    c.in-Err.ensures) refl))
