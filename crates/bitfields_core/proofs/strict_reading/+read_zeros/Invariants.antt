use Rattle.bitfields_core.proofs.strict_reading.+read_zeros.Given as goal

abbrev pub decreases-read_zeros : goal.decreases-read_zeros
decreases-read_zeros g l = l.bits
