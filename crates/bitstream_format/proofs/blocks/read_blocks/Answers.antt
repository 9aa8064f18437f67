use Rattle.std.proofs.Common.{arith}
use Rattle.std.proofs.lemmas.Bool.{eq-eqb, ne_eqb}
use Rattle.bitstream_io.proofs.ReadsLemmas.{map_err}
use Rattle.bitstream_format.proofs.BlocksLemmas.{blocks-begin, blocks-cut, blocks-end, blocks-push, blocks-refused, blocks-stop, blocks-too_long}
use Rattle.bitstream_format.proofs.blocks.read_blocks.Goals as goal

pub loop-init : goal.loop-init
loop-init g c = blocks-begin _ c.new-found.ensures.items

pub returns-in_err-size : goal.returns-in_err-size
returns-in_err-size g c =
    rw (map_err _ c.from_residual.result c.from_residual.ensures.1)
    (blocks-stop c.loop.counter c.loop.invariant _ _ c.loop-test.true c.in_err-size.ensures.reads)

pub returns-then-size-eq0 : goal.returns-then-size-eq0
returns-then-size-eq0 g c =
    blocks-end c.loop.counter c.loop.invariant _ _ c.loop-test.true c.in_ok-size.ensures.reads
    (eq-eqb _ _ c.if-size-eq0.true)

pub returns-in_err-bytes : goal.returns-in_err-bytes
returns-in_err-bytes g c =
    rw (map_err _ c.from_residual-in_err-bytes.result c.from_residual-in_err-bytes.ensures.1)
    (blocks-cut c.loop.counter c.loop.invariant _ _ c.loop-test.true c.in_ok-size.ensures.reads
    (ne_eqb _ _ c.if-size-eq0.false) _ _ c.in_err-bytes.ensures.reads)

pub returns-in_err-push : goal.returns-in_err-push
returns-in_err-push g c =
    rw (map_err _ c.from_residual-in_err-push.result c.from_residual-in_err-push.ensures.1)
    (blocks-refused c.loop.counter c.loop.invariant _ _ c.loop-test.true c.in_ok-size.ensures.reads
    (ne_eqb _ _ c.if-size-eq0.false) _ _ c.in_ok-bytes.ensures.reads)

pub loop-preserved : goal.loop-preserved
loop-preserved g c =
    blocks-push c.loop.counter c.loop.invariant _ _ c.loop-test.true c.in_ok-size.ensures.reads
    (ne_eqb _ _ c.if-size-eq0.false) _ _ c.in_ok-bytes.ensures.reads c.in_ok-push.ensures.items

pub returns : goal.returns
returns g c =
    blocks-too_long c.loop.counter c.loop.invariant _ (omega (arith, c.loop-test.false, c.loop.auto.counter-end))
    c.fail.ensures
