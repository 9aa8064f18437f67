-- Made by `./format` from formats/ethernet_header.fields: edit that file and make this one anew.
use Rattle.bitstream_io.proofs.ReadsLemmas.{Reads-and_then-ok as next, Reads-pure, exit}
use Rattle.protocols.proofs.ethernet_header.EthernetHeader.read.Goals as goal

pub returns-in_err-target : goal.returns-in_err-target
returns-in_err-target g c = exit _ _ c.from_residual.ensures.1 c.in_err-target.ensures.reads

pub returns-in_err-source : goal.returns-in_err-source
returns-in_err-source g c = next _ _ c.in_ok-target.ensures.reads (exit _ _ c.from_residual-in_err-source.ensures.1
    c.in_err-source.ensures.reads)

pub returns-in_err-kind : goal.returns-in_err-kind
returns-in_err-kind g c = next _ _ c.in_ok-target.ensures.reads (next _ _ c.in_ok-source.ensures.reads (exit _ _
    c.from_residual-in_err-kind.ensures.1 c.in_err-kind.ensures))

pub returns-in_err-tag : goal.returns-in_err-tag
returns-in_err-tag g c = next _ _ c.in_ok-target.ensures.reads (next _ _ c.in_ok-source.ensures.reads (next _ _
    c.in_ok-kind.ensures (exit _ _ c.from_residual-in_err-tag.ensures.1 (rw c.number.ensures at c.in_err-tag.ensures))))

pub returns : goal.returns
returns g c = next _ _ c.in_ok-target.ensures.reads (next _ _ c.in_ok-source.ensures.reads (next _ _
    c.in_ok-kind.ensures (next _ _ (rw c.number.ensures at c.in_ok-tag.ensures) (Reads-pure _ _))))
