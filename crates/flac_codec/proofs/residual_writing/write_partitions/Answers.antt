use Rattle.std.proofs.Common.{◌≡◌, arith}
use Rattle.flac_codec.proofs.ResidualLemmas.{parts-begin, parts-none_written, parts-step, parts-stopped, parts-written, rest-all}
use Rattle.flac_codec.proofs.residual_writing.write_partitions.Goals as goal

pub returns-in_err-write_partition : goal.returns-in_err-write_partition
returns-in_err-write_partition g c =
    parts-none_written g.W.BitWrite.sink c.args.bits c.requires.some c.requires.most c.args.first c.args.size c.args.count
    c.args.numbers.now c.requires.all c.requires.small _ _ c.from_residual.ensures.1 c.in_err-write_partition.ensures

pub loop-init : goal.loop-init
loop-init g c =
    rw (rest-all c.args.numbers.now c.args.first)
    (parts-begin g.W.BitWrite.sink c.args.bits c.requires.some c.requires.most c.args.first c.args.size c.args.count
    c.args.numbers.now c.requires.all c.requires.small c.in_ok-write_partition.ensures)

pub loop-preserved : goal.loop-preserved
loop-preserved g c =
    rw (rest-all c.loop.left.now c.args.size)
    (parts-step g.W.BitWrite.sink c.args.bits c.requires.some c.requires.most c.args.first c.args.size c.args.count
    c.args.numbers.now c.loop-test.true c.loop.invariant c.in_ok-write_partition-2.ensures)

pub returns-in_err-write_partition-2 : goal.returns-in_err-write_partition-2
returns-in_err-write_partition-2 g c =
    parts-stopped g.W.BitWrite.sink c.args.bits c.requires.some c.requires.most c.args.first c.args.size c.args.count
    c.args.numbers.now c.loop-test.true c.loop.invariant _ _ c.from_residual-in_err-write_partition-2.ensures.1
    c.in_err-write_partition-2.ensures

pub returns : goal.returns
returns g c =
    let all : c.loop.counter ≡ c.args.count = omega (arith, c.loop-test.false, c.loop.auto.counter-end) in
    parts-written g.W.BitWrite.sink c.args.bits c.requires.some c.requires.most c.args.first c.args.size c.args.count
    c.args.numbers.now all c.loop.invariant
