use Rattle.std.proofs.lemmas.Bool.{eq-eqb, ne_eqb}
use Rattle.bitstream_io.proofs.CallerLemmas.{next_own_read as next, exit_own_read as exit}
use Rattle.bitstream_io.proofs.OwnSteps.{own_end, if_own, else_own}
use Rattle.flac_codec.proofs.header.read_sample_rate.Goals as goal

pub returns-in_err-read : goal.returns-in_err-read
returns-in_err-read g c =
    if_own _ _ _ (eq-eqb _ 12 c.if-code-eq12.true) (exit _ c.from_residual.ensures.1 c.in_err-read.ensures.reads)

pub returns-then-code-eq12 : goal.returns-then-code-eq12
returns-then-code-eq12 g c =
    if_own _ _ _ (eq-eqb _ 12 c.if-code-eq12.true) (next _ c.in_ok-read.ensures.reads (own_end _ _))

pub returns-in_err-read-2 : goal.returns-in_err-read-2
returns-in_err-read-2 g c =
    else_own _ _ _ (ne_eqb _ 12 c.if-code-eq12.false) (if_own _ _ _ (eq-eqb _ 13 c.if-code-eq13.true) (exit _ c.from_residual-in_err-read-2.ensures.1 c.in_err-read-2.ensures.reads))

pub returns-then-code-eq13 : goal.returns-then-code-eq13
returns-then-code-eq13 g c =
    else_own _ _ _ (ne_eqb _ 12 c.if-code-eq12.false) (if_own _ _ _ (eq-eqb _ 13 c.if-code-eq13.true) (next _ c.in_ok-read-2.ensures.reads (own_end _ _)))

pub returns-in_err-read-3 : goal.returns-in_err-read-3
returns-in_err-read-3 g c =
    else_own _ _ _ (ne_eqb _ 12 c.if-code-eq12.false) (else_own _ _ _ (ne_eqb _ 13 c.if-code-eq13.false) (if_own _ _ _ (eq-eqb _ 14 c.if-code-eq14.true) (exit _ c.from_residual-in_err-read-3.ensures.1 c.in_err-read-3.ensures.reads)))

pub returns-then-code-eq14 : goal.returns-then-code-eq14
returns-then-code-eq14 g c =
    else_own _ _ _ (ne_eqb _ 12 c.if-code-eq12.false) (else_own _ _ _ (ne_eqb _ 13 c.if-code-eq13.false) (if_own _ _ _ (eq-eqb _ 14 c.if-code-eq14.true) (next _ c.in_ok-read-3.ensures.reads (own_end _ _))))

pub returns-then-code-eq15 : goal.returns-then-code-eq15
returns-then-code-eq15 g c =
    else_own _ _ _ (ne_eqb _ 12 c.if-code-eq12.false) (else_own _ _ _ (ne_eqb _ 13 c.if-code-eq13.false) (else_own _ _ _ (ne_eqb _ 14 c.if-code-eq14.false) (if_own _ _ _ (eq-eqb _ 15 c.if-code-eq15.true) (own_end _ _))))

pub returns : goal.returns
returns g c =
    else_own _ _ _ (ne_eqb _ 12 c.if-code-eq12.false) (else_own _ _ _ (ne_eqb _ 13 c.if-code-eq13.false) (else_own _ _ _ (ne_eqb _ 14 c.if-code-eq14.false) (else_own _ _ _ (ne_eqb _ 15 c.if-code-eq15.false) (own_end _ _))))
