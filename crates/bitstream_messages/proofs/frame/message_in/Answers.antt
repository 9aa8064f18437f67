-- Made by `./format` from formats/frame.fields: edit that file and make this one anew.
use Rattle.bitstream_messages.specs.Frame.{message_ended, message_here}
use Rattle.bitstream_format.proofs.WithinLemmas.{within-ok, within-err}
use Rattle.bitstream_messages.specs.declared.frame.FrameError.TheVariants.{Reader, OtherMessage}
use Rattle.std.proofs.Common.{true, false, Ok, Err, refl, sym}
use Rattle.bitstream_io.proofs.CallerLemmas.{inl, slice_ends}
use Rattle.bitstream_io.proofs.EachLemmas.{grown_made}
use Rattle.bitstream_io.specs.Callers.{High}
use Rattle.bitstream_messages.proofs.frame.message_in.Goals as goal

pub returns-then-is_at_end : goal.returns-then-is_at_end
returns-then-is_at_end c = inl (sym (within-ok OtherMessage (λ error. Reader error) message_ended {e = message_here
    High} c.over-inside.ensures.state c.in-Ok.found true (grown_made _ (Ok _) c.in-Ok.ensures (λ error is. absurd is))
    c.if-is_at_end.ensures.left))

pub returns-else-is_at_end : goal.returns-else-is_at_end
returns-else-is_at_end c = inl (sym (within-ok OtherMessage (λ error. Reader error) message_ended {e = message_here
    High} c.over-inside.ensures.state c.in-Ok.found false (grown_made _ (Ok _) c.in-Ok.ensures (λ error is. absurd is))
    c.if-is_at_end.ensures.left))

pub returns-in-Err : goal.returns-in-Err
returns-in-Err c = rw (c.message_ended.ensures, c.from.ensures) (within-err OtherMessage (λ error. Reader error)
    message_ended {e = message_here High} c.over-inside.ensures.state slice_ends refl refl (grown_made _ (Err _)
    c.in-Err.ensures (λ error is. rw is refl)))
