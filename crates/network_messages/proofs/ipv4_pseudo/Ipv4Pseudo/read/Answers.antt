-- Made by `./format` from formats/ipv4_pseudo.fields: edit that file and make this one anew.
use Rattle.bitstream_io.proofs.ReadsLemmas.{Reads-and_then-ok as next, Reads-pure, exit}
use Rattle.network_messages.proofs.ipv4_pseudo.Ipv4Pseudo.read.Goals as goal

pub returns-in_err-source : goal.returns-in_err-source
returns-in_err-source g c = exit _ _ c.from_residual.ensures.1 c.in_err-source.ensures.reads

pub returns-in_err-target : goal.returns-in_err-target
returns-in_err-target g c = next _ _ c.in_ok-source.ensures.reads (exit _ _ c.from_residual-in_err-target.ensures.1
    c.in_err-target.ensures.reads)

pub returns-in_err-skip : goal.returns-in_err-skip
returns-in_err-skip g c = next _ _ c.in_ok-source.ensures.reads (next _ _ c.in_ok-target.ensures.reads (exit _ _
    c.from_residual-in_err-skip.ensures.1 c.in_err-skip.ensures.reads))

pub returns-in_err-protocol : goal.returns-in_err-protocol
returns-in_err-protocol g c = next _ _ c.in_ok-source.ensures.reads (next _ _ c.in_ok-target.ensures.reads (next _ _
    c.in_ok-skip.ensures.reads (exit _ _ c.from_residual-in_err-protocol.ensures.1 c.in_err-protocol.ensures.reads)))

pub returns-in_err-length : goal.returns-in_err-length
returns-in_err-length g c = next _ _ c.in_ok-source.ensures.reads (next _ _ c.in_ok-target.ensures.reads (next _ _
    c.in_ok-skip.ensures.reads (next _ _ c.in_ok-protocol.ensures.reads (exit _ _
    c.from_residual-in_err-length.ensures.1 c.in_err-length.ensures.reads))))

pub returns : goal.returns
returns g c = next _ _ c.in_ok-source.ensures.reads (next _ _ c.in_ok-target.ensures.reads (next _ _
    c.in_ok-skip.ensures.reads (next _ _ c.in_ok-protocol.ensures.reads (next _ _ c.in_ok-length.ensures.reads
    (Reads-pure _ _)))))
