-- Made by `./format` from formats/signal.fields: edit that file and make this one anew.
use Rattle.std.proofs.lemmas.Bool.{eq-eqb, ne_eqb}
use Rattle.bitstream_io.proofs.CallerLemmas.{if_read, else_read}
use Rattle.bitstream_io.proofs.ReadsLemmas.{Reads-and_then-ok as next, Reads-pure, exit}
use Rattle.bitstream_messages.proofs.signal.Reply.read.Goals as goal

pub returns-in_err-read : goal.returns-in_err-read
returns-in_err-read g c = if_read _ _ _ (eq-eqb _ 1 c.if-number-eq1.true) (exit _ _ c.from_residual.ensures.1
    c.in_err-read.ensures)

pub returns-then-number-eq1 : goal.returns-then-number-eq1
returns-then-number-eq1 g c = if_read _ _ _ (eq-eqb _ 1 c.if-number-eq1.true) (next _ _ c.in_ok-read.ensures (Reads-pure
    _ _))

pub returns-then-number-eq7 : goal.returns-then-number-eq7
returns-then-number-eq7 g c = else_read _ _ _ (ne_eqb _ 1 c.if-number-eq1.false) (if_read _ _ _ (eq-eqb _ 7
    c.if-number-eq7.true) (Reads-pure _ _))

pub returns : goal.returns
returns g c = else_read _ _ _ (ne_eqb _ 1 c.if-number-eq1.false) (else_read _ _ _ (ne_eqb _ 7 c.if-number-eq7.false)
    (Reads-pure _ _))
