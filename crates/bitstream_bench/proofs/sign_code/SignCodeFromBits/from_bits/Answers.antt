use Rattle.std.specs.Prelude.{if◌then◌else◌}
use Rattle.std.proofs.Common.{Bool, Option, Some, None}
use Rattle.bitstream_io.specs.Codec.{Decoder, and_then, pure}
use Rattle.bitstream_io.specs.ReadTable.{bit_decoder}
use Rattle.bitstream_io.proofs.ReadsLemmas.{Reads-and_then-ok, Reads-pure, exit}
use Rattle.bitstream_bench.proofs.sign_code.SignCodeFromBits.from_bits.Goals as goal

-- what is read behind the bit that says whether there is a sign
abbrev then_sign : Bool → Decoder (Option Bool)
then_sign signed = if signed then and_then bit_decoder (λ negative. pure (Some negative)) else pure None

pub returns-in_err-next_bit : goal.returns-in_err-next_bit
returns-in_err-next_bit g c = record {
  reads = exit then_sign c.from_residual.result c.from_residual.ensures.1
      c.in_err-next_bit.ensures.reads;
}

pub returns-in_err-negative : goal.returns-in_err-negative
returns-in_err-negative g c = record {
  reads =
      Reads-and_then-ok bit_decoder then_sign (rw c.if-branch.true at c.in_ok-next_bit.ensures.reads)
      (exit (λ negative. pure (Some negative)) c.from_residual-in_err-negative.result
      c.from_residual-in_err-negative.ensures.1 c.in_err-negative.ensures.reads);
}

pub returns-in_ok-negative : goal.returns-in_ok-negative
returns-in_ok-negative g c = record {
  reads =
      Reads-and_then-ok bit_decoder then_sign (rw c.if-branch.true at c.in_ok-next_bit.ensures.reads)
      (Reads-and_then-ok bit_decoder (λ negative. pure (Some negative)) c.in_ok-negative.ensures.reads (Reads-pure _ _));
}

pub returns-else-branch : goal.returns-else-branch
returns-else-branch g c = record {
  reads = Reads-and_then-ok bit_decoder then_sign
      (rw c.if-branch.false at c.in_ok-next_bit.ensures.reads) (Reads-pure None _);
}
