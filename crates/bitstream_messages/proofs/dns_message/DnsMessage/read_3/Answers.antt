-- Made by `./format` from formats/dns_message.fields: edit that file and make this one anew.
use Rattle.bitstream_io.proofs.GrowsLemmas.{part_go, part_stop, grown_end}
use Rattle.bitstream_io.proofs.OwnLemmas.{is_error}
use Rattle.bitstream_messages.proofs.dns_message.DnsMessage.read_3.Goals as goal

pub returns-in_err-answers : goal.returns-in_err-answers
returns-in_err-answers g c = part_stop _ c.in_err-answers.ensures (is_error _ _ c.from_residual.ensures.1)

pub returns-in_err-authorities : goal.returns-in_err-authorities
returns-in_err-authorities g c = part_go _ c.in_ok-answers.ensures (part_stop _ c.in_err-authorities.ensures (is_error _
    _ c.from_residual-in_err-authorities.ensures.1))

pub returns-in_err-additional : goal.returns-in_err-additional
returns-in_err-additional g c = part_go _ c.in_ok-answers.ensures (part_go _ c.in_ok-authorities.ensures (part_stop _
    c.in_err-additional.ensures (is_error _ _ c.from_residual-in_err-additional.ensures.1)))

pub returns : goal.returns
returns g c = part_go _ c.in_ok-answers.ensures (part_go _ c.in_ok-authorities.ensures (part_go _
    c.in_ok-additional.ensures (grown_end _ _)))
