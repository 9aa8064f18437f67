-- Made by `./format` from formats/can_frame.fields: edit that file and make this one anew.
use Rattle.bitstream_io.proofs.ReadsLemmas.{Reads-and_then-ok as next, Reads-pure, exit}
use Rattle.protocols.proofs.can_frame.CanFrame.read.Goals as goal

pub returns-in_err-extended : goal.returns-in_err-extended
returns-in_err-extended g c = exit _ _ c.from_residual.ensures.1 c.in_err-extended.ensures.reads

pub returns-in_err-remote : goal.returns-in_err-remote
returns-in_err-remote g c = next _ _ c.in_ok-extended.ensures.reads (exit _ _ c.from_residual-in_err-remote.ensures.1
    c.in_err-remote.ensures.reads)

pub returns-in_err-fault : goal.returns-in_err-fault
returns-in_err-fault g c = next _ _ c.in_ok-extended.ensures.reads (next _ _ c.in_ok-remote.ensures.reads (exit _ _
    c.from_residual-in_err-fault.ensures.1 c.in_err-fault.ensures.reads))

pub returns-in_err-id : goal.returns-in_err-id
returns-in_err-id g c = next _ _ c.in_ok-extended.ensures.reads (next _ _ c.in_ok-remote.ensures.reads (next _ _
    c.in_ok-fault.ensures.reads (exit _ _ c.from_residual-in_err-id.ensures.1 c.in_err-id.ensures.reads)))

pub returns-in_err-size : goal.returns-in_err-size
returns-in_err-size g c = next _ _ c.in_ok-extended.ensures.reads (next _ _ c.in_ok-remote.ensures.reads (next _ _
    c.in_ok-fault.ensures.reads (next _ _ c.in_ok-id.ensures.reads (exit _ _ c.from_residual-in_err-size.ensures.1
    c.in_err-size.ensures.reads))))

pub returns-in_err-skip : goal.returns-in_err-skip
returns-in_err-skip g c = next _ _ c.in_ok-extended.ensures.reads (next _ _ c.in_ok-remote.ensures.reads (next _ _
    c.in_ok-fault.ensures.reads (next _ _ c.in_ok-id.ensures.reads (next _ _ c.in_ok-size.ensures.reads (exit _ _
    c.from_residual-in_err-skip.ensures.1 c.in_err-skip.ensures.reads)))))

pub returns : goal.returns
returns g c = next _ _ c.in_ok-extended.ensures.reads (next _ _ c.in_ok-remote.ensures.reads (next _ _
    c.in_ok-fault.ensures.reads (next _ _ c.in_ok-id.ensures.reads (next _ _ c.in_ok-size.ensures.reads (next _ _
    c.in_ok-skip.ensures.reads (Reads-pure _ _))))))
