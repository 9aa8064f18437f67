use Rattle.std.proofs.Common.{arith, ◌≤◌, ◌^◌}
use Rattle.std.proofs.Math.Pow.{pow_mono}
use Rattle.std.proofs.lemmas.Nat.{one_shl}
use Rattle.flac_codec.proofs.partitions.greatest_parameter.Goals as goal

pub overflow_sub-result : goal.overflow_sub-result
overflow_sub-result c =
    let shl = one_shl c.args.bits 32 (omega (arith, c.requires.most)) in
    let least : 2 ^ 1 ≤ 2 ^ c.args.bits = pow_mono {i = 1} {j = c.args.bits} c.requires.some in
    rw shl (omega (arith, least))

pub returns-clause-few : goal.returns-clause-few
returns-clause-few c =
    let shl = one_shl c.args.bits 32 (omega (arith, c.requires.most)) in
    let power : 2 ^ c.args.bits ≤ 2 ^ 5 = pow_mono {i = c.args.bits} {j = 5} c.requires.most in
    rw shl (omega (arith, power))

pub returns-clause-coded : goal.returns-clause-coded
returns-clause-coded c =
    let shl = one_shl c.args.bits 32 (omega (arith, c.requires.most)) in
    let least : 2 ^ 1 ≤ 2 ^ c.args.bits = pow_mono {i = 1} {j = c.args.bits} c.requires.some in
    rw shl (omega (arith, least))
