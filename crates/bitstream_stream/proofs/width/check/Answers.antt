use Rattle.bitstream_stream.proofs.Writing.WriteLemmas.{unsigned-accepts, unsigned-fail}
use Rattle.bitstream_stream.proofs.width.check.Goals as goal

pub returns-in-Ok-clause-word : goal.returns-in-Ok-clause-word
returns-in-Ok-clause-word g c = λ o len. let h = rw c.unknown.ensures at c.in-Ok.ensures in
    unsigned-accepts o _ _ _ len h.0

pub returns-in-Err-clause-refusal : goal.returns-in-Err-clause-refusal
returns-in-Err-clause-refusal g c = λ o len. unsigned-fail o _ _ _ len _ (rw c.unknown.ensures at c.in-Err.ensures)
