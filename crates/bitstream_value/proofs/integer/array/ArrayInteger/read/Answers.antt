use Rattle.std.proofs.Common.{Err, ap, ◌∙◌, arith, length-set}
use Rattle.std.proofs.lemmas.List.{length-replicate}
use Rattle.std.proofs.lemmas.Result.{err_from_is_err_and}
use Rattle.std.proofs.lemmas.List.Elements.{AllWithin-more_set}
use Rattle.bitstream_value.proofs.ArrayLemmas.{items-start, items-put, items-stop, items-all}
use Rattle.bitstream_value.proofs.integer.array.ArrayInteger.read.Goals as goal

pub loop-i-init : goal.loop-i-init
loop-i-init g c = (items-start _ _, length-replicate _ _, λ k d low high. absurd (omega (arith, high)))

pub returns-in_err-items-clause-reads : goal.returns-in_err-items-clause-reads
returns-in_err-items-clause-reads g c =
    let p = err_from_is_err_and c.from_residual.result c.from_residual.ensures.1 in
    rw (p.1 ∙ ap Err p.2)
    (items-stop _ _ _ _ {z = c.read_item.new.reader} (omega arith) c.loop-i.invariant.0 c.in_err-items.ensures.reads)

pub returns-in_err-items-clause-fits : goal.returns-in_err-items-clause-fits
returns-in_err-items-clause-fits g c =
    let p = err_from_is_err_and c.from_residual.result c.from_residual.ensures.1 in rw (p.1) tt

pub loop-i-preserved : goal.loop-i-preserved
loop-i-preserved g c = (
  items-put _ _ _ _ _ (omega arith) c.loop-i.invariant.1 c.loop-i.invariant.0
      c.in_ok-items.ensures.reads,
  simp length-set c.loop-i.invariant.1,
  AllWithin-more_set _ _ _ (omega (arith, c.loop-i.invariant.1)) (g.I.Integer.Fits g.B.Width.BITS)
      c.loop-i.invariant.2 c.in_ok-items.ensures.fits,
)

pub returns-clause-reads : goal.returns-clause-reads
returns-clause-reads g c = items-all _ _ _ _ (omega arith) c.loop-i.invariant.1 c.loop-i.invariant.0

pub returns-clause-fits : goal.returns-clause-fits
returns-clause-fits g c = λ k d below. c.loop-i.invariant.2 k d (omega arith) (omega (arith, c.loop-i.invariant.1))
