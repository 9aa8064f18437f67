use Rattle.bitstream_value.proofs.FitsLemmas.{unsigned-in_range}
use Rattle.bitstream_value.proofs.integer.unsigned.read_number.Goals as goal

pub returns-clause-fits : goal.returns-clause-fits
returns-clause-fits g c = unsigned-in_range _ _ _ _ _ c.read_unsigned_counted.ensures.reads
