use Rattle.bitfields_core.proofs.strict_reading.+read_to_boundary.Given as goal

abbrev pub decreases-read_to_boundary : goal.decreases-read_to_boundary
decreases-read_to_boundary g l = l.most
