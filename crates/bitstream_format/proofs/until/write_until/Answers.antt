use Rattle.std.proofs.Common.{refl, arith}
use Rattle.bitstream_io.proofs.WriteParts.{all_none}
use Rattle.bitstream_io.proofs.WriteSteps.{next_call}
use Rattle.bitstream_io.proofs.CallerLemmas.{written-begin, written-more}
use Rattle.bitstream_format.specs.Until.{until_word}
use Rattle.bitstream_format.proofs.UntilLemmas.{until-written, until-unwritten}
use Rattle.bitstream_format.proofs.until.write_until.Goals as goal

pub loop-byte-init : goal.loop-byte-init
loop-byte-init g c = let K = g.W.BitWrite.sink in
    written-begin K (until_word K.order c.args.stop) c.args.bytes.now _

pub returns-in_err-write_unsigned_var : goal.returns-in_err-write_unsigned_var
returns-in_err-write_unsigned_var g c =
    let K = g.W.BitWrite.sink in
    until-unwritten K c.args.stop c.args.bytes.now _ _ _ _ _ _ _ _ c.loop-byte-test.true refl c.loop-byte.invariant
    (rw c.until_item.ensures at c.in_err-write_unsigned_var.ensures.writes) c.from_residual.ensures.1

pub loop-byte-preserved : goal.loop-byte-preserved
loop-byte-preserved g c =
    let K = g.W.BitWrite.sink in
    written-more K (until_word K.order c.args.stop) c.args.bytes.now _ _ _ _ _ _ c.loop-byte-test.true refl
    c.loop-byte.invariant
    (next_call _ _ _ _ _ _ _ (rw c.until_item.ensures at c.in_ok-write_unsigned_var.ensures.writes) (all_none _ _))

pub returns : goal.returns
returns g c =
    let K = g.W.BitWrite.sink in
    until-written K c.args.stop c.args.bytes.now _ _ _ _ _ (omega (arith, c.loop-byte-test.false, c.loop-byte.auto.byte-index-end))
    c.loop-byte.invariant c.write_unsigned_var-2.ensures.writes
