-- Made by `./format` from formats/signal.fields: edit that file and make this one anew.
use Rattle.std.proofs.lemmas.Bool.{eq-eqb, ne_eqb}
use Rattle.bitstream_io.proofs.CallerLemmas.{if_read, else_read}
use Rattle.bitstream_io.proofs.ReadsLemmas.{Reads-and_then-ok as next, Reads-pure, exit}
use Rattle.bitstream_messages.proofs.signal.Tail.read.Goals as goal

pub returns-then-number-eq0 : goal.returns-then-number-eq0
returns-then-number-eq0 g c = if_read _ _ _ (eq-eqb _ 0 c.if-number-eq0.true) (Reads-pure _ _)

pub returns-in_err-read : goal.returns-in_err-read
returns-in_err-read g c = else_read _ _ _ (ne_eqb _ 0 c.if-number-eq0.false) (exit _ _ c.from_residual.ensures.1
    c.in_err-read.ensures)

pub returns : goal.returns
returns g c = else_read _ _ _ (ne_eqb _ 0 c.if-number-eq0.false) (next _ _ c.in_ok-read.ensures (Reads-pure _ _))
