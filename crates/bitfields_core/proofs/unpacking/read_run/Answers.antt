use Rattle.bitfields_core.proofs.unpacking.read_run.Goals as goal

pub returns-in-true : goal.returns-in-true
returns-in-true g c = rw c.in-true.is c.read_unary.ensures.reads

pub returns-in-false : goal.returns-in-false
returns-in-false g c = rw c.in-false.is c.read_unary-in-false.ensures.reads
