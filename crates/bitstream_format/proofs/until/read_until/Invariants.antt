use Rattle.bitstream_format.proofs.UntilLemmas.{UntilSoFar}
use Rattle.bitstream_format.proofs.until.read_until.Given as goal

-- the bytes so far were read, and none of them is the terminator
abbrev pub invariant-loop : goal.invariant-loop
invariant-loop g l = UntilSoFar g.R.BitRead.source l.stop l.counter l.initial.reader l.found.items l.reader
