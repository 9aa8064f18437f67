-- Made by `./format` from formats/checked_ipv4.fields: edit that file and make this one anew.
use Rattle.std.proofs.Common.{refl}
use Rattle.std.proofs.lemmas.Bool.{eq-eqb, ne_eqb}
use Rattle.network_messages.proofs.checked_ipv4.Start.of.Goals as goal

pub returns-then-number-eq69 : goal.returns-then-number-eq69
returns-then-number-eq69 c = rw (eq-eqb _ 69 c.if-number-eq69.true) refl

pub returns : goal.returns
returns c = rw (ne_eqb _ 69 c.if-number-eq69.false) refl
