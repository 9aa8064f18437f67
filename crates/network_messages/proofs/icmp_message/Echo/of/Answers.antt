-- Made by `./format` from formats/icmp_message.fields: edit that file and make this one anew.
use Rattle.std.proofs.Common.{refl}
use Rattle.std.proofs.lemmas.Bool.{eq-eqb, ne_eqb}
use Rattle.network_messages.proofs.icmp_message.Echo.of.Goals as goal

pub returns-then-number-eq0 : goal.returns-then-number-eq0
returns-then-number-eq0 c = rw (eq-eqb _ 0 c.if-number-eq0.true) refl

pub returns-then-number-eq8 : goal.returns-then-number-eq8
returns-then-number-eq8 c = rw (ne_eqb _ 0 c.if-number-eq0.false, eq-eqb _ 8 c.if-number-eq8.true) refl

pub returns : goal.returns
returns c = rw (ne_eqb _ 0 c.if-number-eq0.false, ne_eqb _ 8 c.if-number-eq8.false) refl
