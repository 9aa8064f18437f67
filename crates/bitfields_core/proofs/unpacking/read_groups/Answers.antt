use Rattle.bitstream_io.proofs.SliceLemmas.{map_same}
use Rattle.bitfields_core.proofs.unpacking.read_groups.Goals as goal

pub returns-in-Four : goal.returns-in-Four
returns-in-Four g c = rw c.in-Four.is (rw (map_same c.read_unsigned_vbr.result) at c.read_unsigned_vbr.ensures.reads)

pub returns-in-Eight : goal.returns-in-Eight
returns-in-Eight g c =
    rw c.in-Eight.is (rw (map_same c.read_unsigned_vbr-in-Eight.result) at c.read_unsigned_vbr-in-Eight.ensures.reads)
