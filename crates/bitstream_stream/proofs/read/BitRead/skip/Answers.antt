use Rattle.std.proofs.Common.{arith, ◌+◌, ◌*◌, ◌%◌, Ok, Err, refl}
use Rattle.bitstream_stream.proofs.Reading.BytesLemmas.{skips, skips-stop, skips-more, skips-prefix, stops}
use Rattle.bitstream_stream.proofs.read.BitRead.skip.Goals as goal

pub returns-in_err-read_unsigned_var : goal.returns-in_err-read_unsigned_var
returns-in_err-read_unsigned_var g c =
    let first = c.args.bits % 128 in
    record {
      reads = stops c.from_residual.result c.from_residual.ensures.1
          (skips-prefix first c.args.bits _ _ _ (omega arith)
          (skips-stop _ 128 first _ _ _ (omega arith) c.in_err-read_unsigned_var.ensures.reads));
    }

pub loop-done-init : goal.loop-done-init
loop-done-init g c =
    let first = c.args.bits % 128 in
    skips _ 128 first (first + 128 * 0) _ _ _ (omega arith) (omega arith) c.in_ok-read_unsigned_var.ensures.reads

pub returns-in_err-read_unsigned_var-2 : goal.returns-in_err-read_unsigned_var-2
returns-in_err-read_unsigned_var-2 g c =
    let at = c.args.bits % 128 + 128 * c.loop-done._done in
    record {
      reads = stops c.from_residual-in_err-read_unsigned_var-2.result
          c.from_residual-in_err-read_unsigned_var-2.ensures.1
          (skips-prefix (at + 128) c.args.bits _ _ _ (omega arith)
          (skips-more at 128 (at + 128) (Err _) _ _ _ refl c.loop-done.invariant
          (skips-stop _ 128 128 _ _ _ (omega arith) c.in_err-read_unsigned_var-2.ensures.reads)));
    }

pub loop-done-preserved : goal.loop-done-preserved
loop-done-preserved g c =
    let at = c.args.bits % 128 + 128 * c.loop-done._done in
    skips-more at 128 _ (Ok tt) _ _ _ (omega arith) c.loop-done.invariant
    (skips _ 128 128 128 _ _ _ (omega arith) refl c.in_ok-read_unsigned_var-2.ensures.reads)
