-- Made by `./format` from formats/icmp_ids.fields: edit that file and make this one anew.
use Rattle.bitstream_io.proofs.ReadsLemmas.{Reads-and_then-ok as next, Reads-pure, exit}
use Rattle.protocols.proofs.icmp_ids.IcmpIds.read.Goals as goal

pub returns-in_err-identifier : goal.returns-in_err-identifier
returns-in_err-identifier g c = exit _ _ c.from_residual.ensures.1 c.in_err-identifier.ensures.reads

pub returns-in_err-sequence : goal.returns-in_err-sequence
returns-in_err-sequence g c = next _ _ c.in_ok-identifier.ensures.reads (exit _ _
    c.from_residual-in_err-sequence.ensures.1 c.in_err-sequence.ensures.reads)

pub returns : goal.returns
returns g c = next _ _ c.in_ok-identifier.ensures.reads (next _ _ c.in_ok-sequence.ensures.reads (Reads-pure _ _))
