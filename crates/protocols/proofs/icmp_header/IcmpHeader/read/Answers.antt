-- Made by `./format` from formats/icmp_header.fields: edit that file and make this one anew.
use Rattle.bitstream_io.proofs.ReadsLemmas.{Reads-and_then-ok as next, Reads-pure, exit}
use Rattle.protocols.proofs.icmp_header.IcmpHeader.read.Goals as goal

pub returns-in_err-body_tag : goal.returns-in_err-body_tag
returns-in_err-body_tag g c = exit _ _ c.from_residual.ensures.1 c.in_err-body_tag.ensures.reads

pub returns-in_err-code : goal.returns-in_err-code
returns-in_err-code g c = next _ _ c.in_ok-body_tag.ensures.reads (exit _ _ c.from_residual-in_err-code.ensures.1
    c.in_err-code.ensures.reads)

pub returns-in_err-checksum : goal.returns-in_err-checksum
returns-in_err-checksum g c = next _ _ c.in_ok-body_tag.ensures.reads (next _ _ c.in_ok-code.ensures.reads (exit _ _
    c.from_residual-in_err-checksum.ensures.1 c.in_err-checksum.ensures.reads))

pub returns-in_err-body : goal.returns-in_err-body
returns-in_err-body g c = next _ _ c.in_ok-body_tag.ensures.reads (next _ _ c.in_ok-code.ensures.reads (next _ _
    c.in_ok-checksum.ensures.reads (exit _ _ c.from_residual-in_err-body.ensures.1 c.in_err-body.ensures)))

pub returns : goal.returns
returns g c = next _ _ c.in_ok-body_tag.ensures.reads (next _ _ c.in_ok-code.ensures.reads (next _ _
    c.in_ok-checksum.ensures.reads (next _ _ c.in_ok-body.ensures (Reads-pure _ _))))
