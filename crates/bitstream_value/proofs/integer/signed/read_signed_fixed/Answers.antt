use Rattle.bitstream_value.proofs.FitsLemmas.{signed-in_range}
use Rattle.bitstream_value.proofs.integer.signed.read_signed_fixed.Goals as goal

pub returns-clause-fits : goal.returns-clause-fits
returns-clause-fits g c = signed-in_range _ _ _ _ _ c.read_signed.ensures.reads
