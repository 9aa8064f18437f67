use Rattle.std.proofs.lemmas.Bool.{eq-eqb, le-leb, lt-leb, ne_eqb}
use Rattle.bitstream_io.proofs.CallerLemmas.{arith, next_own_read as next, exit_own_read as exit}
use Rattle.bitstream_io.proofs.OwnSteps.{own_end, if_own, else_own}
use Rattle.flac_codec.proofs.CodedLemmas.{room}
use Rattle.flac_codec.proofs.coded.read_coded.Goals as goal

pub returns-in_err-ones : goal.returns-in_err-ones
returns-in_err-ones g c = exit _ c.from_residual.ensures.1 c.in_err-ones.ensures.reads

pub returns-in_err-number : goal.returns-in_err-number
returns-in_err-number g c = next _ c.in_ok-ones.ensures.reads (if_own _ _ _ (eq-eqb _ 0 c.if-ones-eq0.true) (exit _
    c.from_residual-in_err-number.ensures.1 c.in_err-number.ensures.reads))

pub returns-then-ones-eq0 : goal.returns-then-ones-eq0
returns-then-ones-eq0 g c = next _ c.in_ok-ones.ensures.reads (if_own _ _ _ (eq-eqb _ 0 c.if-ones-eq0.true) (next _
    c.in_ok-number.ensures.reads (own_end _ _)))

pub returns-then-ones-eq1 : goal.returns-then-ones-eq1
returns-then-ones-eq1 g c = next _ c.in_ok-ones.ensures.reads (else_own _ _ _ (ne_eqb _ 0 c.if-ones-eq0.false)
    (if_own _ _ _ (eq-eqb _ 1 c.if-ones-eq1.true) (own_end _ _)))

pub returns-then-ones-gt7 : goal.returns-then-ones-gt7
returns-then-ones-gt7 g c = next _ c.in_ok-ones.ensures.reads (else_own _ _ _ (ne_eqb _ 0 c.if-ones-eq0.false)
    (else_own _ _ _ (ne_eqb _ 1 c.if-ones-eq1.false) (else_own _ _ _ (lt-leb _ 7 c.if-ones-gt7.true) (own_end _ _))))

pub returns-in_err-first : goal.returns-in_err-first
returns-in_err-first g c = next _ c.in_ok-ones.ensures.reads (else_own _ _ _ (ne_eqb _ 0 c.if-ones-eq0.false)
    (else_own _ _ _ (ne_eqb _ 1 c.if-ones-eq1.false) (if_own _ _ _ (le-leb _ 7 c.if-ones-gt7.false) (exit _
    c.from_residual-in_err-first.ensures.1 c.in_err-first.ensures.reads))))

pub read_rest-requires : goal.read_rest-requires
read_rest-requires g c = room c.in_ok-ones.ones c.in_ok-first.first (omega arith) c.if-ones-gt7.false c.in_ok-first.ensures.fits

pub returns : goal.returns
returns g c =
    let rest = rw c.least_of.ensures at c.read_rest.ensures in
    next _ c.in_ok-ones.ensures.reads (else_own _ _ _ (ne_eqb _ 0 c.if-ones-eq0.false)
    (else_own _ _ _ (ne_eqb _ 1 c.if-ones-eq1.false) (if_own _ _ _ (le-leb _ 7 c.if-ones-gt7.false) (next _
    c.in_ok-first.ensures.reads rest))))
