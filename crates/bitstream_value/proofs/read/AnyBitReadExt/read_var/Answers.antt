use Rattle.bitstream_value.proofs.read.AnyBitReadExt.read_var.Goals as goal

pub returns-clause-reads : goal.returns-clause-reads
returns-clause-reads g c = rw c.unknown.ensures at c.read_var.ensures.reads

pub returns-clause-fits : goal.returns-clause-fits
returns-clause-fits g c = rw c.unknown.ensures at c.read_var.ensures.fits
