-- Made by `./format` from formats/dns_text.fields: edit that file and make this one anew.
use Rattle.bitstream_io.proofs.GrowsLemmas.{go_grown, stop_grown, grown, vec-grown, grown_end}
use Rattle.bitstream_messages.proofs.dns_text.DnsText.read.Goals as goal

pub returns-in_err-octets_count : goal.returns-in_err-octets_count
returns-in_err-octets_count g c = stop_grown _ (grown c.in_err-octets_count.ensures.reads) c.from_residual.ensures.1

pub returns-in_err-octets : goal.returns-in_err-octets
returns-in_err-octets g c = go_grown _ (grown c.in_ok-octets_count.ensures.reads) (stop_grown _ (vec-grown _ _
    c.in_err-octets.ensures.reads) c.from_residual-in_err-octets.ensures.1)

pub returns : goal.returns
returns g c = go_grown _ (grown c.in_ok-octets_count.ensures.reads) (go_grown _ (vec-grown _ _
    c.in_ok-octets.ensures.reads) (grown_end _ _))
