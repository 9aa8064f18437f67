use Rattle.std.proofs.Common.{◌+◌, ◌^◌, ◌/◌, ◌-◌, ◌<◌, length, arith, refl}
use Rattle.std.proofs.lemmas.Nat.{one_shl}
use Rattle.flac_codec.specs.Subframe.{residual_head}
use Rattle.flac_codec.proofs.ResidualLemmas.{part-sizes, partitions-calls, residual_head-back, stopped-before, written-behind}
use Rattle.flac_codec.proofs.SubframeLemmas.{residual_head-packs}
use Rattle.flac_codec.proofs.residual_writing.write_residual.Goals as goal

pub write_partitions-requires-clause-all : goal.write_partitions-requires-clause-all
write_partitions-requires-clause-all g c =
    let found = c.best_partitions-partitions.ensures in
    let n = c.best_partitions-partitions.result.order in
    let shl = one_shl n 64 (let few = found.few in omega (arith, few)) in
    rw shl (part-sizes (c.args.order + length c.args.numbers.now) c.args.order n (length c.args.numbers.now) refl found.whole found.long)

pub returns-in_err-write_residual_head : goal.returns-in_err-write_residual_head
returns-in_err-write_residual_head g c =
    let o = g.W.BitWrite.sink.order in
    let found = c.best_partitions-partitions.ensures in
    let n = c.best_partitions-partitions.result.order in
    let coding = c.best_partitions-partitions.result.coding in
    let block = c.args.order + length c.args.numbers.now in
    let size = block / 2 ^ n in
    let small = found.coding in
    let few : n < 2 ^ 4 = let most = found.few in omega (arith, most) in
    let all = part-sizes block c.args.order n (length c.args.numbers.now) refl found.whole found.long in
    stopped-before (residual_head o coding n) (residual_head-packs o coding n (omega (arith, small)) few).accepted
    (residual_head-back o coding n block c.args.order c.args.numbers.now small few found.whole found.long)
    (partitions-calls o (4 + coding) (omega arith) (omega (arith, small)) (size - c.args.order) size (2 ^ n - 1)
    c.args.numbers.now all c.requires.small)
    _ _ c.from_residual.ensures.1 c.in_err-write_residual_head.ensures

pub returns : goal.returns
returns g c =
    let o = g.W.BitWrite.sink.order in
    let found = c.best_partitions-partitions.ensures in
    let n = c.best_partitions-partitions.result.order in
    let coding = c.best_partitions-partitions.result.coding in
    let block = c.args.order + length c.args.numbers.now in
    let small = found.coding in
    let few : n < 2 ^ 4 = let most = found.few in omega (arith, most) in
    let shl = one_shl n 64 (let most = found.few in omega (arith, most)) in
    let written = rw shl at c.write_partitions.ensures in
    written-behind (residual_head o coding n) (residual_head-packs o coding n (omega (arith, small)) few).accepted
    (residual_head-back o coding n block c.args.order c.args.numbers.now small few found.whole found.long)
    c.in_ok-write_residual_head.ensures written
