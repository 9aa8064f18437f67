use Rattle.std.proofs.Common.{arith, ◌<◌, ◌^◌, ◌-◌}
use Rattle.flac_codec.proofs.SubframeLemmas.{partition-back, partition-packs, value_written}
use Rattle.flac_codec.proofs.residual_writing.write_partition.Goals as goal

pub returns : goal.returns
returns g c =
    let o = g.W.BitWrite.sink.order in
    let bits = c.args.bits in
    let k = c.best_parameter-parameter.result in
    let xs = c.args.numbers.now in
    let most = c.best_parameter-parameter.ensures in
    let coded = c.greatest_parameter.ensures.coded in
    let few : k < 2 ^ bits - 1 = omega (arith, most, coded) in
    value_written c.write_coded_numbers.ensures (partition-packs o bits k xs c.requires.most few)
    (partition-back o bits k xs c.requires.most few c.requires.small)
