use Rattle.bitfields_core.proofs.packing.append_run.Goals as goal

pub returns-in-true : goal.returns-in-true
returns-in-true g c = rw c.in-true.is c.write_unary.ensures.writes

pub returns-in-false : goal.returns-in-false
returns-in-false g c = rw c.in-false.is c.write_unary-in-false.ensures.writes
