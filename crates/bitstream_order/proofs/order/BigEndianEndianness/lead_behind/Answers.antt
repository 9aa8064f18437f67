use Rattle.std.proofs.Common.{refl}
use Rattle.bitstream_order.proofs.WindowLemmas.{zeros_high, ones_high}
use Rattle.bitstream_order.proofs.order.BigEndianEndianness.lead_behind.Goals as goal

pub returns-then-stop-clause-run : goal.returns-then-stop-clause-run
returns-then-stop-clause-run c = λ within. rw (c.if-stop.true) (zeros_high c.args.value c.args.at _ c.requires refl within)

pub returns-else-stop-clause-run : goal.returns-else-stop-clause-run
returns-else-stop-clause-run c = λ within. rw (c.if-stop.false) (ones_high c.args.value c.args.at _ c.requires c.leading_ones.ensures within)
