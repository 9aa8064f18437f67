-- Made by `./format` from formats/dns_name.fields: edit that file and make this one anew.
use Rattle.bitstream_io.proofs.GrowsLemmas.{part_go, part_stop, grown_end}
use Rattle.bitstream_io.proofs.OwnLemmas.{is_error}
use Rattle.bitstream_messages.proofs.dns_name.DnsName.read.Goals as goal

pub returns-in_err-labels : goal.returns-in_err-labels
returns-in_err-labels g c = part_stop _ c.in_err-labels.ensures (is_error _ _ c.from_residual.ensures.1)

pub returns : goal.returns
returns g c = part_go _ c.in_ok-labels.ensures (grown_end _ _)
