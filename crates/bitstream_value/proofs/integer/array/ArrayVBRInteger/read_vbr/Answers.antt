use Rattle.std.proofs.Common.{Err, ap, ◌∙◌, arith, length-set}
use Rattle.std.proofs.lemmas.List.{length-replicate}
use Rattle.std.proofs.lemmas.Result.{err_from_is_err_and}
use Rattle.bitstream_value.proofs.ArrayLemmas.{items-start, items-put, items-stop, items-all}
use Rattle.bitstream_value.proofs.integer.array.ArrayVBRInteger.read_vbr.Goals as goal

pub loop-i-init : goal.loop-i-init
loop-i-init g c = (items-start _ _, length-replicate _ _)

pub returns-in_err-items : goal.returns-in_err-items
returns-in_err-items g c =
    let p = err_from_is_err_and c.from_residual.result c.from_residual.ensures.1 in
    record {
      reads = rw (p.1 ∙ ap Err p.2) (items-stop _ _ _ _ {z = c.read_vbr.new.reader} (omega arith)
          c.loop-i.invariant.0 c.in_err-items.ensures.reads);
    }

pub loop-i-preserved : goal.loop-i-preserved
loop-i-preserved g c = (
  items-put _ _ _ _ _ (omega arith) c.loop-i.invariant.1 c.loop-i.invariant.0
      c.in_ok-items.ensures.reads,
  simp length-set c.loop-i.invariant.1,
)

pub returns : goal.returns
returns g c = record { reads = items-all _ _ _ _ (omega arith) c.loop-i.invariant.1 c.loop-i.invariant.0 }
