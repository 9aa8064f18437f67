-- Made by `./format` from formats/rtp_packet.fields: edit that file and make this one anew.
use Rattle.std.proofs.Common.{refl, Ok, Err}
use Rattle.bitstream_io.proofs.CallerLemmas.{if_growing, else_growing}
use Rattle.bitstream_io.proofs.EachLemmas.{grown_made}
use Rattle.bitstream_io.proofs.GrowsLemmas.{part_go, part_stop, grown_end}
use Rattle.bitstream_io.proofs.OwnLemmas.{is_error}
use Rattle.network_messages.proofs.rtp_packet.read_rtp_extension_if.Goals as goal

pub returns-then-not-there : goal.returns-then-not-there
returns-then-not-there g c = else_growing _ _ _ c.if-not-there.true (grown_end _ _)

pub returns-in_err-read : goal.returns-in_err-read
returns-in_err-read g c = if_growing _ _ _ c.if-not-there.false (part_stop _ (grown_made _ (Err _) c.in_err-read.ensures
    (λ error is. rw is refl)) (is_error _ _ c.from_residual.ensures.1))

pub returns : goal.returns
returns g c = if_growing _ _ _ c.if-not-there.false (part_go _ (grown_made _ (Ok _) c.in_ok-read.ensures (λ error is.
    absurd is)) (grown_end _ _))
