use Rattle.bitstream_value.proofs.BooleanLemmas.{truth-bit}
use Rattle.bitstream_value.proofs.integer.boolean.BoolInteger.read.Goals as goal

pub returns-clause-reads : goal.returns-clause-reads
returns-clause-reads g c =
    truth-bit _ c.requires c.read_bit.ensures.reads
