use Rattle.std.proofs.Common.{◌≡◌, ℕ, Bool, true, false, cond, arith}
use mir.Val.{bool_byte}
use Rattle.bitstream_stream.proofs.Writing.SinkLemmas.{restate}
use Rattle.bitstream_stream.proofs.Writing.WriteLemmas.{unsigned-bit}
use Rattle.bitstream_stream.proofs.write.BitWrite.write_bit.Goals as goal

number_of : (b : Bool) (n : ℕ) → n ≡ bool_byte b → n ≡ cond b 1 0
number_of true n h = h
number_of false n h = h

pub returns : goal.returns
returns g c =
    let K = g.Self.BitWrite.sink in
    record {
      writes = restate K _ _ _ _ _ (unsigned-bit K.order c.args.bit _ _ (K.len c.args.self.now) (omega arith)
          (number_of c.args.bit _ c.from.ensures)) c.write_unsigned_var.ensures.writes;
    }
