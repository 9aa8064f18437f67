-- Made by `./format` from formats/signal.fields: edit that file and make this one anew.
use Rattle.bitstream_io.proofs.ReadsLemmas.{Reads-and_then-ok as next, Reads-pure, exit}
use Rattle.bitstream_messages.proofs.signal.Signal.read.Goals as goal

pub returns-in_err-body_tag : goal.returns-in_err-body_tag
returns-in_err-body_tag g c = exit _ _ c.from_residual.ensures.1 c.in_err-body_tag.ensures.reads

pub returns-in_err-tail_tag : goal.returns-in_err-tail_tag
returns-in_err-tail_tag g c = next _ _ c.in_ok-body_tag.ensures.reads (exit _ _
    c.from_residual-in_err-tail_tag.ensures.1 c.in_err-tail_tag.ensures.reads)

pub returns-in_err-level : goal.returns-in_err-level
returns-in_err-level g c = next _ _ c.in_ok-body_tag.ensures.reads (next _ _ c.in_ok-tail_tag.ensures.reads (exit _ _
    c.from_residual-in_err-level.ensures.1 c.in_err-level.ensures.reads))

pub returns-in_err-body : goal.returns-in_err-body
returns-in_err-body g c = next _ _ c.in_ok-body_tag.ensures.reads (next _ _ c.in_ok-tail_tag.ensures.reads (next _ _
    c.in_ok-level.ensures.reads (exit _ _ c.from_residual-in_err-body.ensures.1 c.in_err-body.ensures)))

pub returns-in_err-tail : goal.returns-in_err-tail
returns-in_err-tail g c = next _ _ c.in_ok-body_tag.ensures.reads (next _ _ c.in_ok-tail_tag.ensures.reads (next _ _
    c.in_ok-level.ensures.reads (next _ _ c.in_ok-body.ensures (exit _ _ c.from_residual-in_err-tail.ensures.1
    c.in_err-tail.ensures))))

pub returns : goal.returns
returns g c = next _ _ c.in_ok-body_tag.ensures.reads (next _ _ c.in_ok-tail_tag.ensures.reads (next _ _
    c.in_ok-level.ensures.reads (next _ _ c.in_ok-body.ensures (next _ _ c.in_ok-tail.ensures (Reads-pure _ _)))))
