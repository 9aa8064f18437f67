-- Made by `./answers` from src/picture.rt: when that changes make this one anew.
use Rattle.bitstream_io.proofs.WriteParts.{all_one}
use Rattle.bitstream_io.proofs.WriteSteps.{next_write, stop_write}
use Rattle.bitstream_callers.proofs.picture.write_counted_bytes.Goals as goal

pub returns-in_err-write : goal.returns-in_err-write
returns-in_err-write g c = stop_write _ _ _ _ _ _ _ c.from_residual.ensures.1 c.in_err-write.ensures.writes

pub returns : goal.returns
returns g c = next_write _ _ _ _ _ _ _ c.in_ok-write.ensures.writes (all_one _ _ _ _ _ c.write_bytes.ensures.writes)
