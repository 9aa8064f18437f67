use Rattle.std.proofs.Common.{Err, ap, ◌∙◌}
use Rattle.std.proofs.lemmas.Result.{err_from_is_err_and}
use Rattle.bitstream_value.proofs.LimitedLemmas.{number-done, number-refused, number-unknown}
use Rattle.bitstream_value.proofs.huffman.limited_unary.LimitedUnaryToBits.to_bits.Goals as goal

pub returns-in_err-repeat-in-Some : goal.returns-in_err-repeat-in-Some
returns-in_err-repeat-in-Some g c =
    let p = err_from_is_err_and c.from_residual.result c.from_residual.ensures.1 in
    record {
      writes = rw c.in-Some.is (number-refused g.P.PutBit.sink _ _ _ c.if-number.true _ _ _ _ (p.1
          ∙ ap Err p.2) c.in_err-repeat-in-Some.ensures.writes);
    }

pub returns-in_ok-repeat-in-Some : goal.returns-in_ok-repeat-in-Some
returns-in_ok-repeat-in-Some g c = record {
  writes = rw c.in-Some.is (number-done g.P.PutBit.sink _ _ _ c.if-number.true _ _ _ _
      c.in_ok-repeat-in-Some.ensures.writes c.put_bit.ensures.writes);
}

pub returns-in-Some-2 : goal.returns-in-Some-2
returns-in-Some-2 g c = record { writes = rw c.in-Some.is (number-unknown g.P.PutBit.sink _ _ _ c.if-number.false _) }
