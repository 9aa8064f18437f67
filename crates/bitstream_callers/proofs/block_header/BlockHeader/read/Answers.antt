-- Made by `./format` from formats/block_header.fields: edit that file and make this one anew.
use Rattle.bitstream_io.proofs.ReadsLemmas.{Reads-and_then-ok as next, Reads-pure, exit}
use Rattle.bitstream_callers.proofs.block_header.BlockHeader.read.Goals as goal

pub returns-in_err-last : goal.returns-in_err-last
returns-in_err-last g c = exit _ _ c.from_residual.ensures.1 c.in_err-last.ensures.reads

pub returns-in_err-kind : goal.returns-in_err-kind
returns-in_err-kind g c = next _ _ c.in_ok-last.ensures.reads (exit _ _ c.from_residual-in_err-kind.ensures.1
    c.in_err-kind.ensures.reads)

pub returns-in_err-size : goal.returns-in_err-size
returns-in_err-size g c = next _ _ c.in_ok-last.ensures.reads (next _ _ c.in_ok-kind.ensures.reads (exit _ _
    c.from_residual-in_err-size.ensures.1 c.in_err-size.ensures.reads))

pub returns : goal.returns
returns g c = next _ _ c.in_ok-last.ensures.reads (next _ _ c.in_ok-kind.ensures.reads (next _ _
    c.in_ok-size.ensures.reads (Reads-pure _ _)))
