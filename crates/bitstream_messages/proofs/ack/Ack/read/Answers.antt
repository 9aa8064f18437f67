-- Made by `./format` from formats/ack.fields: edit that file and make this one anew.
use Rattle.bitstream_io.proofs.ReadsLemmas.{Reads-and_then-ok as next, Reads-pure, exit}
use Rattle.bitstream_messages.proofs.ack.Ack.read.Goals as goal

pub returns-in_err-sequence : goal.returns-in_err-sequence
returns-in_err-sequence g c = exit _ _ c.from_residual.ensures.1 c.in_err-sequence.ensures.reads

pub returns-in_err-urgent : goal.returns-in_err-urgent
returns-in_err-urgent g c = next _ _ c.in_ok-sequence.ensures.reads (exit _ _ c.from_residual-in_err-urgent.ensures.1
    c.in_err-urgent.ensures.reads)

pub returns-in_err-skip : goal.returns-in_err-skip
returns-in_err-skip g c = next _ _ c.in_ok-sequence.ensures.reads (next _ _ c.in_ok-urgent.ensures.reads (exit _ _
    c.from_residual-in_err-skip.ensures.1 c.in_err-skip.ensures.reads))

pub returns : goal.returns
returns g c = next _ _ c.in_ok-sequence.ensures.reads (next _ _ c.in_ok-urgent.ensures.reads (next _ _
    c.in_ok-skip.ensures.reads (Reads-pure _ _)))
