use Rattle.std.proofs.Common.{◌*◌, ◌-◌, arith, refl}
use Rattle.std.proofs.lemmas.Bool.{eq-eqb, ne_eqb}
use Rattle.std.proofs.lemmas.Nat.{one_shl}
use Rattle.flac_codec.proofs.coded.least_of.Goals as goal

pub returns-then-bytes-eq2 : goal.returns-then-bytes-eq2
returns-then-bytes-eq2 c = rw (eq-eqb c.args.bytes 2 c.if-bytes-eq2.true) refl

pub returns-else-bytes-eq2 : goal.returns-else-bytes-eq2
returns-else-bytes-eq2 c =
    rw (ne_eqb c.args.bytes 2 c.if-bytes-eq2.false, one_shl (5 * c.args.bytes - 4) 64 (omega arith)) refl
