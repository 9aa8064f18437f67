use Rattle.std.proofs.Common.{refl}
use Rattle.bitfields_core.specs.Run.{not_repacked, unflushed}
use Rattle.bitfields_core.proofs.PackingLemmas.{result_err}
use Rattle.bitfields_core.proofs.running.repack_input.Goals as goal

pub returns-in_err-repack : goal.returns-in_err-repack
returns-in_err-repack g c =
    rw (result_err c.from_residual.result c.from_residual.ensures.1) (not_repacked c.in_err-repack.ensures.repacks)

pub returns-in_err-flush : goal.returns-in_err-flush
returns-in_err-flush g c =
    rw (result_err c.from_residual-in_err-flush.result c.from_residual-in_err-flush.ensures.1)
    (unflushed c.repack.new.output c.in_ok-repack.ensures.repacks (record {
      kind = _;
      refused = c.in_err-flush.ensures.refused;
      reason = refl;
    }))

pub returns : goal.returns
returns g c = record {
  filled = c.repack.new.output;
  repacks = c.in_ok-repack.ensures.repacks;
  flushed = record { bytes = c.in_ok-flush.ensures.bytes; flushes = c.in_ok-flush.ensures.flushed };
}
