use Rattle.bitfields_core.proofs.packing.append_groups.Goals as goal

pub returns-in-Four : goal.returns-in-Four
returns-in-Four g c = rw c.in-Four.is c.write_unsigned_vbr.ensures.writes

pub returns-in-Eight : goal.returns-in-Eight
returns-in-Eight g c = rw c.in-Eight.is c.write_unsigned_vbr-in-Eight.ensures.writes
