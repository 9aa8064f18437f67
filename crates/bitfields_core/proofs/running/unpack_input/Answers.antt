use Rattle.std.proofs.Common.{refl}
use Rattle.bitfields_core.specs.Run.{refused_lines, stopped_input, unflushed_lines}
use Rattle.bitfields_core.proofs.PackingLemmas.{result_err}
use Rattle.bitfields_core.proofs.running.unpack_input.Goals as goal

pub returns-in_err-lines : goal.returns-in_err-lines
returns-in_err-lines g c =
    rw (result_err c.from_residual.result c.from_residual.ensures.1) (stopped_input c.in_err-lines.ensures.unpacks refl)

pub returns-in_err-write_all : goal.returns-in_err-write_all
returns-in_err-write_all g c =
    rw (result_err c.from_residual-in_err-write_all.result c.from_residual-in_err-write_all.ensures.1)
    (refused_lines c.deref.result.now (rw c.deref.ensures.value c.in_ok-lines.ensures.unpacks) (record {
      kind = _;
      refused = c.in_err-write_all.ensures.refused;
      reason = refl;
    }))

pub returns-in_err-flush : goal.returns-in_err-flush
returns-in_err-flush g c =
    rw (result_err c.from_residual-in_err-flush.result c.from_residual-in_err-flush.ensures.1)
    (unflushed_lines c.deref.result.now (rw c.deref.ensures.value c.in_ok-lines.ensures.unpacks) (record {
      filled = _;
      writes = c.in_ok-write_all.ensures.bytes;
      refused = record { kind = _; refused = c.in_err-flush.ensures.refused; reason = refl };
    }))

pub returns : goal.returns
returns g c = record {
  text = c.deref.result.now;
  unpacks = rw c.deref.ensures.value c.in_ok-lines.ensures.unpacks;
  filled = c.write_all.new.self;
  writes = c.in_ok-write_all.ensures.bytes;
  flushed = record { bytes = c.in_ok-flush.ensures.bytes; flushes = c.in_ok-flush.ensures.flushed };
}
