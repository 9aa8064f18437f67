use Rattle.std.proofs.Common.{refl}
use Rattle.std.proofs.lemmas.Bool.{le-ltb, lt-ltb}
use Rattle.flac_codec.proofs.coded.shortest.Goals as goal

pub returns-then-number-least : goal.returns-then-number-least
returns-then-number-least c = rw (lt-ltb c.args.number c.args.least c.if-number-least.true) refl

pub returns : goal.returns
returns c = rw (le-ltb c.args.number c.args.least c.if-number-least.false) refl
