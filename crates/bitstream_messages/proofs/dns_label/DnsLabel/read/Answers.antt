-- Made by `./format` from formats/dns_label.fields: edit that file and make this one anew.
use Rattle.bitstream_io.proofs.GrowsLemmas.{go_grown, stop_grown, grown, part_go, part_stop, grown_end}
use Rattle.bitstream_io.proofs.OwnLemmas.{is_error}
use Rattle.bitstream_messages.proofs.dns_label.DnsLabel.read.Goals as goal

pub returns-in_err-body_tag : goal.returns-in_err-body_tag
returns-in_err-body_tag g c = stop_grown _ (grown c.in_err-body_tag.ensures.reads) c.from_residual.ensures.1

pub returns-in_err-body : goal.returns-in_err-body
returns-in_err-body g c = go_grown _ (grown c.in_ok-body_tag.ensures.reads) (part_stop _ c.in_err-body.ensures (is_error
    _ _ c.from_residual-in_err-body.ensures.1))

pub returns : goal.returns
returns g c = go_grown _ (grown c.in_ok-body_tag.ensures.reads) (part_go _ c.in_ok-body.ensures (grown_end _ _))
