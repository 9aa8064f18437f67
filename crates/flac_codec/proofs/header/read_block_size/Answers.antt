use Rattle.std.proofs.lemmas.Bool.{eq-eqb, ne_eqb}
use Rattle.bitstream_io.proofs.CallerLemmas.{next_own_read as next, exit_own_read as exit}
use Rattle.bitstream_io.proofs.OwnSteps.{own_end, if_own, else_own}
use Rattle.flac_codec.proofs.header.read_block_size.Goals as goal

pub returns-then-code-eq0 : goal.returns-then-code-eq0
returns-then-code-eq0 g c =
    if_own _ _ _ (eq-eqb _ 0 c.if-code-eq0.true) (own_end _ _)

pub returns-in_err-read : goal.returns-in_err-read
returns-in_err-read g c =
    else_own _ _ _ (ne_eqb _ 0 c.if-code-eq0.false) (if_own _ _ _ (eq-eqb _ 6 c.if-code-eq6.true) (exit _ c.from_residual.ensures.1 c.in_err-read.ensures.reads))

pub returns-then-code-eq6 : goal.returns-then-code-eq6
returns-then-code-eq6 g c =
    else_own _ _ _ (ne_eqb _ 0 c.if-code-eq0.false) (if_own _ _ _ (eq-eqb _ 6 c.if-code-eq6.true) (next _ c.in_ok-read.ensures.reads (own_end _ _)))

pub returns-in_err-less : goal.returns-in_err-less
returns-in_err-less g c =
    else_own _ _ _ (ne_eqb _ 0 c.if-code-eq0.false) (else_own _ _ _ (ne_eqb _ 6 c.if-code-eq6.false) (if_own _ _ _ (eq-eqb _ 7 c.if-code-eq7.true) (exit _ c.from_residual-in_err-less.ensures.1 c.in_err-less.ensures.reads)))

pub returns-then-less-eq65535 : goal.returns-then-less-eq65535
returns-then-less-eq65535 g c =
    else_own _ _ _ (ne_eqb _ 0 c.if-code-eq0.false) (else_own _ _ _ (ne_eqb _ 6 c.if-code-eq6.false) (if_own _ _ _ (eq-eqb _ 7 c.if-code-eq7.true) (next _ c.in_ok-less.ensures.reads (if_own _ _ _ (eq-eqb _ 65535 c.if-less-eq65535.true) (own_end _ _)))))

pub returns-then-code-eq7 : goal.returns-then-code-eq7
returns-then-code-eq7 g c =
    else_own _ _ _ (ne_eqb _ 0 c.if-code-eq0.false) (else_own _ _ _ (ne_eqb _ 6 c.if-code-eq6.false) (if_own _ _ _ (eq-eqb _ 7 c.if-code-eq7.true) (next _ c.in_ok-less.ensures.reads (else_own _ _ _ (ne_eqb _ 65535 c.if-less-eq65535.false) (own_end _ _)))))

pub returns : goal.returns
returns g c =
    else_own _ _ _ (ne_eqb _ 0 c.if-code-eq0.false) (else_own _ _ _ (ne_eqb _ 6 c.if-code-eq6.false) (else_own _ _ _ (ne_eqb _ 7 c.if-code-eq7.false) (own_end _ _)))
