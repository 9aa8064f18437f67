-- Made by `./format` from formats/udp_header.fields: edit that file and make this one anew.
use Rattle.bitstream_io.proofs.ReadsLemmas.{Reads-and_then-ok as next, Reads-pure, exit}
use Rattle.protocols.proofs.udp_header.UdpHeader.read.Goals as goal

pub returns-in_err-source : goal.returns-in_err-source
returns-in_err-source g c = exit _ _ c.from_residual.ensures.1 c.in_err-source.ensures.reads

pub returns-in_err-target : goal.returns-in_err-target
returns-in_err-target g c = next _ _ c.in_ok-source.ensures.reads (exit _ _ c.from_residual-in_err-target.ensures.1
    c.in_err-target.ensures.reads)

pub returns-in_err-size : goal.returns-in_err-size
returns-in_err-size g c = next _ _ c.in_ok-source.ensures.reads (next _ _ c.in_ok-target.ensures.reads (exit _ _
    c.from_residual-in_err-size.ensures.1 c.in_err-size.ensures.reads))

pub returns-in_err-checksum : goal.returns-in_err-checksum
returns-in_err-checksum g c = next _ _ c.in_ok-source.ensures.reads (next _ _ c.in_ok-target.ensures.reads (next _ _
    c.in_ok-size.ensures.reads (exit _ _ c.from_residual-in_err-checksum.ensures.1 c.in_err-checksum.ensures.reads)))

pub returns : goal.returns
returns g c = next _ _ c.in_ok-source.ensures.reads (next _ _ c.in_ok-target.ensures.reads (next _ _
    c.in_ok-size.ensures.reads (next _ _ c.in_ok-checksum.ensures.reads (Reads-pure _ _))))
