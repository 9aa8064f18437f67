use Rattle.flac_codec.proofs.ResidualLemmas.{PartsWritten}
use Rattle.flac_codec.proofs.residual_writing.write_partitions.Given as goal

-- the partitions so far were written, and whole ones are left
abbrev pub invariant-loop : goal.invariant-loop
invariant-loop g l =
    PartsWritten g.W.BitWrite.sink l.bits l.first l.size l.count l.numbers l.left l.counter l.fn.writer l.writer
