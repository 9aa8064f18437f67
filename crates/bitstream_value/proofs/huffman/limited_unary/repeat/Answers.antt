use Rattle.std.proofs.Common.{Err, ap, ◌∙◌, arith}
use Rattle.std.proofs.lemmas.Result.{err_from_is_err_and}
use Rattle.bitstream_value.proofs.LimitedLemmas.{Repeating-start, Repeating-more, Repeating-refused, Repeating-end}
use Rattle.bitstream_value.proofs.huffman.limited_unary.repeat.Goals as goal

pub loop-init : goal.loop-init
loop-init g c = Repeating-start

pub returns-in_err-put_bit : goal.returns-in_err-put_bit
returns-in_err-put_bit g c =
    let p = err_from_is_err_and c.from_residual.result c.from_residual.ensures.1 in
    record {
      writes = Repeating-refused c.from_residual.result c.loop.invariant c.loop-test.true (p.1
          ∙ ap Err p.2) c.in_err-put_bit.ensures.writes;
    }

pub loop-preserved : goal.loop-preserved
loop-preserved g c = Repeating-more c.loop.invariant c.loop-test.true c.in_ok-put_bit.ensures.writes

pub returns : goal.returns
returns g c = let end = c.loop-test.false in record { writes = Repeating-end c.loop.invariant (omega arith) }
