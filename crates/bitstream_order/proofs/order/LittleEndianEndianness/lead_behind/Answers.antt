use Rattle.std.proofs.Common.{refl}
use Rattle.bitstream_order.proofs.WindowLemmas.{zeros_low, ones_low}
use Rattle.bitstream_order.proofs.order.LittleEndianEndianness.lead_behind.Goals as goal

pub returns-then-stop-clause-run : goal.returns-then-stop-clause-run
returns-then-stop-clause-run c = λ within. rw (c.if-stop.true) (zeros_low c.args.value c.args.at _ c.requires refl within)

pub returns-else-stop-clause-run : goal.returns-else-stop-clause-run
returns-else-stop-clause-run c = λ within. rw (c.if-stop.false) (ones_low c.args.value c.args.at _ c.requires c.ranges.value.fits c.trailing_ones.ensures within)
