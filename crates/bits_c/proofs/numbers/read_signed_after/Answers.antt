use borrow.Author.Rules.{sfits_of}
use Rattle.bitstream_io.proofs.ReadSteps.{next_signed_read}
use Rattle.bitstream_io.proofs.ReadsLemmas.{Reads-and_then-ok as next, Reads-pure, exit}
use Rattle.bits_c.proofs.numbers.read_signed_after.Goals as goal

pub returns-in_err-skip : goal.returns-in_err-skip
returns-in_err-skip g c = exit _ _ c.from_residual.ensures.1 c.in_err-skip.ensures.reads

pub returns-in_err-value : goal.returns-in_err-value
returns-in_err-value g c = next _ _ c.in_ok-skip.ensures.reads (exit _ _ c.from_residual-in_err-value.ensures.1
    c.in_err-value.ensures.reads)

pub returns : goal.returns
returns g c = next _ _ c.in_ok-skip.ensures.reads (next_signed_read _ _ _ _ c.in_ok-value.ensures.reads (search
    (sfits_of, c.in_ok-value)) (Reads-pure _ _))
