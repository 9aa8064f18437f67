-- Made by `./format` from formats/icmp_header.fields: edit that file and make this one anew.
use Rattle.std.proofs.lemmas.Bool.{eq-eqb, ne_eqb}
use Rattle.bitstream_io.proofs.CallerLemmas.{if_read, else_read}
use Rattle.bitstream_io.proofs.ReadsLemmas.{Reads-and_then-ok as next, Reads-pure, exit}
use Rattle.protocols.proofs.icmp_header.Body.read.Goals as goal

pub returns-in_err-read : goal.returns-in_err-read
returns-in_err-read g c = if_read _ _ _ (eq-eqb _ 0 c.if-number-eq0.true) (exit _ _ c.from_residual.ensures.1
    c.in_err-read.ensures)

pub returns-then-number-eq0 : goal.returns-then-number-eq0
returns-then-number-eq0 g c = if_read _ _ _ (eq-eqb _ 0 c.if-number-eq0.true) (next _ _ c.in_ok-read.ensures (Reads-pure
    _ _))

pub returns-in_err-read-2 : goal.returns-in_err-read-2
returns-in_err-read-2 g c = else_read _ _ _ (ne_eqb _ 0 c.if-number-eq0.false) (if_read _ _ _ (eq-eqb _ 5
    c.if-number-eq5.true) (exit _ _ c.from_residual-in_err-read-2.ensures.1 c.in_err-read-2.ensures))

pub returns-then-number-eq5 : goal.returns-then-number-eq5
returns-then-number-eq5 g c = else_read _ _ _ (ne_eqb _ 0 c.if-number-eq0.false) (if_read _ _ _ (eq-eqb _ 5
    c.if-number-eq5.true) (next _ _ c.in_ok-read-2.ensures (Reads-pure _ _)))

pub returns-in_err-read-3 : goal.returns-in_err-read-3
returns-in_err-read-3 g c = else_read _ _ _ (ne_eqb _ 0 c.if-number-eq0.false) (else_read _ _ _ (ne_eqb _ 5
    c.if-number-eq5.false) (if_read _ _ _ (eq-eqb _ 8 c.if-number-eq8.true) (exit _ _
    c.from_residual-in_err-read-3.ensures.1 c.in_err-read-3.ensures)))

pub returns-then-number-eq8 : goal.returns-then-number-eq8
returns-then-number-eq8 g c = else_read _ _ _ (ne_eqb _ 0 c.if-number-eq0.false) (else_read _ _ _ (ne_eqb _ 5
    c.if-number-eq5.false) (if_read _ _ _ (eq-eqb _ 8 c.if-number-eq8.true) (next _ _ c.in_ok-read-3.ensures (Reads-pure
    _ _))))

pub returns : goal.returns
returns g c = else_read _ _ _ (ne_eqb _ 0 c.if-number-eq0.false) (else_read _ _ _ (ne_eqb _ 5 c.if-number-eq5.false)
    (else_read _ _ _ (ne_eqb _ 8 c.if-number-eq8.false) (Reads-pure _ _)))
