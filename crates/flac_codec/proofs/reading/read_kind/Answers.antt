use Rattle.std.proofs.lemmas.Bool.{eq-eqb, le-ltb, lt-ltb, ne_eqb}
use Rattle.bitstream_io.proofs.CallerLemmas.{grown_end, if_growing, else_growing}
use Rattle.flac_codec.proofs.reading.read_kind.Goals as goal

pub returns-then-kind-eq0 : goal.returns-then-kind-eq0
returns-then-kind-eq0 g c =
    if_growing _ _ _ (eq-eqb _ 0 c.if-kind-eq0.true) c.read_constant.ensures

pub returns-then-kind-eq1 : goal.returns-then-kind-eq1
returns-then-kind-eq1 g c =
    else_growing _ _ _ (ne_eqb _ 0 c.if-kind-eq0.false) (if_growing _ _ _ (eq-eqb _ 1 c.if-kind-eq1.true) c.read_verbatim.ensures)

pub returns-then-kind-lt8 : goal.returns-then-kind-lt8
returns-then-kind-lt8 g c =
    else_growing _ _ _ (ne_eqb _ 0 c.if-kind-eq0.false) (else_growing _ _ _ (ne_eqb _ 1 c.if-kind-eq1.false) (if_growing _ _ _ (lt-ltb _ 8 c.if-kind-lt8.true) (grown_end _ _)))

pub returns-then-kind-lt13 : goal.returns-then-kind-lt13
returns-then-kind-lt13 g c =
    else_growing _ _ _ (ne_eqb _ 0 c.if-kind-eq0.false) (else_growing _ _ _ (ne_eqb _ 1 c.if-kind-eq1.false)
    (else_growing _ _ _ (le-ltb _ 8 c.if-kind-lt8.false) (if_growing _ _ _ (lt-ltb _ 13 c.if-kind-lt13.true) c.read_fixed.ensures)))

pub returns-then-kind-lt32 : goal.returns-then-kind-lt32
returns-then-kind-lt32 g c =
    else_growing _ _ _ (ne_eqb _ 0 c.if-kind-eq0.false) (else_growing _ _ _ (ne_eqb _ 1 c.if-kind-eq1.false)
    (else_growing _ _ _ (le-ltb _ 8 c.if-kind-lt8.false) (else_growing _ _ _ (le-ltb _ 13 c.if-kind-lt13.false)
    (if_growing _ _ _ (lt-ltb _ 32 c.if-kind-lt32.true) (grown_end _ _)))))

pub returns : goal.returns
returns g c =
    else_growing _ _ _ (ne_eqb _ 0 c.if-kind-eq0.false) (else_growing _ _ _ (ne_eqb _ 1 c.if-kind-eq1.false)
    (else_growing _ _ _ (le-ltb _ 8 c.if-kind-lt8.false) (else_growing _ _ _ (le-ltb _ 13 c.if-kind-lt13.false)
    (else_growing _ _ _ (le-ltb _ 32 c.if-kind-lt32.false) c.read_linear.ensures))))
