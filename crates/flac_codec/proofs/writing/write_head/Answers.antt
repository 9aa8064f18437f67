use Rattle.bitstream_io.proofs.CallerLemmas.{few_writes}
use Rattle.bitstream_io.proofs.WriteSteps.{next_call, next_write}
use Rattle.flac_codec.proofs.writing.write_head.Goals as goal

pub returns-in_err-write_bit : goal.returns-in_err-write_bit
returns-in_err-write_bit g c = search few_writes depth 12

pub returns-in_err-write : goal.returns-in_err-write
returns-in_err-write g c = search few_writes depth 12

pub returns : goal.returns
returns g c =
    next_call _ _ _ _ _ _ _ c.in_ok-write_bit.ensures.writes (next_write _ _ _ _ _ _ _ c.in_ok-write.ensures.writes
    c.write_wasted.ensures)
