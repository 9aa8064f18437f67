use Rattle.bitstream_io.proofs.ReadsLemmas.{Reads-and_then-ok as next, Reads-pure, exit}
use Rattle.bits_c.proofs.numbers.read_after.Goals as goal

pub returns-in_err-skip : goal.returns-in_err-skip
returns-in_err-skip g c = exit _ _ c.from_residual.ensures.1 c.in_err-skip.ensures.reads

pub returns-in_err-value : goal.returns-in_err-value
returns-in_err-value g c = next _ _ c.in_ok-skip.ensures.reads (exit _ _ c.from_residual-in_err-value.ensures.1
    c.in_err-value.ensures.reads)

pub returns : goal.returns
returns g c = next _ _ c.in_ok-skip.ensures.reads (next _ _ c.in_ok-value.ensures.reads (Reads-pure _ _))
