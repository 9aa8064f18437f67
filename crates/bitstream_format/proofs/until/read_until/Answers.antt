use Rattle.std.proofs.Common.{arith}
use Rattle.std.proofs.lemmas.Bool.{eq-eqb, ne_eqb}
use Rattle.bitstream_io.proofs.ReadsLemmas.{map_err}
use Rattle.bitstream_format.proofs.UntilLemmas.{until-begin, until-end, until-push, until-refused, until-stop, until-too_long}
use Rattle.bitstream_format.proofs.until.read_until.Goals as goal

pub loop-init : goal.loop-init
loop-init g c = until-begin c.args.stop _ c.new-found.ensures.items

pub returns-in_err-byte : goal.returns-in_err-byte
returns-in_err-byte g c =
    rw (map_err _ c.from_residual.result c.from_residual.ensures.1)
    (until-stop c.args.stop c.loop.counter c.loop.invariant _ _ c.loop-test.true c.in_err-byte.ensures.reads)

pub returns-then-byte-stop : goal.returns-then-byte-stop
returns-then-byte-stop g c =
    until-end c.args.stop c.loop.counter c.loop.invariant _ _ c.loop-test.true c.in_ok-byte.ensures.reads
    (eq-eqb _ _ c.if-byte-stop.true)

pub returns-in_err-push : goal.returns-in_err-push
returns-in_err-push g c =
    rw (map_err _ c.from_residual-in_err-push.result c.from_residual-in_err-push.ensures.1)
    (until-refused c.args.stop c.loop.counter c.loop.invariant _ _ c.loop-test.true c.in_ok-byte.ensures.reads
    (ne_eqb _ _ c.if-byte-stop.false))

pub loop-preserved : goal.loop-preserved
loop-preserved g c =
    until-push c.args.stop c.loop.counter c.loop.invariant _ _ c.loop-test.true c.in_ok-byte.ensures.reads
    (ne_eqb _ _ c.if-byte-stop.false) c.in_ok-push.ensures.items

pub returns : goal.returns
returns g c =
    until-too_long c.args.stop c.loop.counter c.loop.invariant _ (omega (arith, c.loop-test.false, c.loop.auto.counter-end))
    c.fail.ensures
