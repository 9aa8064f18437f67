use Rattle.std.proofs.Common.{◌≡◌, ◌-◌, ◌^◌, arith, ap, ◌∙◌}
use Rattle.std.proofs.lemmas.Nat.Bits.{ones_shr}
use Rattle.bitfields_core.proofs.field.greatest.Goals as goal

pub returns : goal.returns
returns c =
    let back : 32 - (32 - c.args.bits) ≡ c.args.bits = omega arith in
    ones_shr 32 (32 - c.args.bits) (omega arith) ∙ ap (λ n. 2 ^ n - 1) back
