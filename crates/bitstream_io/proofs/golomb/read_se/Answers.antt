use Rattle.bitstream_io.proofs.ReadSteps.{reads}
use Rattle.bitstream_io.proofs.GolombLemmas.{at_even, at_odd}
use Rattle.bitstream_io.proofs.golomb.read_se.Goals as goal

pub returns-in_err-place : goal.returns-in_err-place
returns-in_err-place g c = search (reads, c.in_err-place.ensures.reads, c.from_residual.ensures.1) depth 12

pub returns-then-place-eq1 : goal.returns-then-place-eq1
returns-then-place-eq1 g c =
    rw (at_odd c.in_ok-place.place c.in_ok-place.ensures.below c.if-place-eq1.true)
    (search (reads, c.in_ok-place.ensures.reads) depth 12)

pub returns-else-place-eq1 : goal.returns-else-place-eq1
returns-else-place-eq1 g c =
    rw (at_even c.in_ok-place.place c.in_ok-place.ensures.below c.if-place-eq1.false)
    (search (reads, c.in_ok-place.ensures.reads) depth 12)
