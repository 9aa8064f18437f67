-- Made by `./format` from formats/vlan_tag.fields: edit that file and make this one anew.
use Rattle.bitstream_io.proofs.ReadsLemmas.{Reads-and_then-ok as next, Reads-pure, exit}
use Rattle.protocols.proofs.vlan_tag.VlanTag.read.Goals as goal

pub returns-in_err-priority : goal.returns-in_err-priority
returns-in_err-priority g c = exit _ _ c.from_residual.ensures.1 c.in_err-priority.ensures.reads

pub returns-in_err-drop_eligible : goal.returns-in_err-drop_eligible
returns-in_err-drop_eligible g c = next _ _ c.in_ok-priority.ensures.reads (exit _ _
    c.from_residual-in_err-drop_eligible.ensures.1 c.in_err-drop_eligible.ensures.reads)

pub returns-in_err-vlan : goal.returns-in_err-vlan
returns-in_err-vlan g c = next _ _ c.in_ok-priority.ensures.reads (next _ _ c.in_ok-drop_eligible.ensures.reads (exit _
    _ c.from_residual-in_err-vlan.ensures.1 c.in_err-vlan.ensures.reads))

pub returns-in_err-kind : goal.returns-in_err-kind
returns-in_err-kind g c = next _ _ c.in_ok-priority.ensures.reads (next _ _ c.in_ok-drop_eligible.ensures.reads (next _
    _ c.in_ok-vlan.ensures.reads (exit _ _ c.from_residual-in_err-kind.ensures.1 c.in_err-kind.ensures.reads)))

pub returns : goal.returns
returns g c = next _ _ c.in_ok-priority.ensures.reads (next _ _ c.in_ok-drop_eligible.ensures.reads (next _ _
    c.in_ok-vlan.ensures.reads (next _ _ c.in_ok-kind.ensures.reads (Reads-pure _ _))))
