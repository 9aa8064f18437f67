use Rattle.bitstream_io.proofs.CallerLemmas.{few_writes}
use Rattle.bitstream_io.proofs.WriteSteps.{next_write}
use Rattle.flac_codec.proofs.residual_writing.write_coded_numbers.Goals as goal

pub returns-in_err-write_var : goal.returns-in_err-write_var
returns-in_err-write_var g c = search few_writes depth 12

pub returns : goal.returns
returns g c = next_write _ _ _ _ _ _ _ c.in_ok-write_var.ensures.writes c.write_numbers.ensures
