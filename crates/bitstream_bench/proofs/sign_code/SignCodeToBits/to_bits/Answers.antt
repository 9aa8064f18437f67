use Rattle.std.proofs.Common.{Err, ap, ◌∙◌}
use Rattle.std.proofs.lemmas.Result.{err_from_is_err_and}
use Rattle.bitstream_io.proofs.WriteParts.{all_one, all_err, all_more}
use Rattle.bitstream_bench.proofs.sign_code.SignCodeToBits.to_bits.Goals as goal

pub returns-in_err-put_bit-in-Some : goal.returns-in_err-put_bit-in-Some
returns-in_err-put_bit-in-Some g c =
    let p = err_from_is_err_and c.from_residual.result c.from_residual.ensures.1 in
    record {
      writes = rw c.in-Some.is (all_err g.P.PutBit.sink _ _ _ _ _ _ (p.1
          ∙ ap Err p.2) c.in_err-put_bit-in-Some.ensures.writes);
    }

pub returns-in_ok-put_bit-in-Some : goal.returns-in_ok-put_bit-in-Some
returns-in_ok-put_bit-in-Some g c = record {
  writes = rw c.in-Some.is (all_more g.P.PutBit.sink _ _ _ _ _ _ c.in_ok-put_bit-in-Some.ensures.writes
      (all_one g.P.PutBit.sink _ _ _ _ c.put_bit-in-Some.ensures.writes));
}

pub returns-in-None : goal.returns-in-None
returns-in-None g c = record {
  writes = rw c.in-None.is
      (all_one g.P.PutBit.sink _ _ _ _ c.put_bit-in-None.ensures.writes);
}
