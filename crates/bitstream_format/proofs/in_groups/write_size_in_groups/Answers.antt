use Rattle.bitstream_io.proofs.WriteParts.{all_one}
use Rattle.bitstream_io.proofs.WriteSteps.{stop_call}
use Rattle.bitstream_format.proofs.WithinLemmas.{rejects-after, rejects-failed}
use Rattle.bitstream_format.proofs.in_groups.write_size_in_groups.Goals as goal

pub returns-in_err-pad-in-Err : goal.returns-in_err-pad-in-Err
returns-in_err-pad-in-Err g c = rw c.in-Err.is
    (stop_call _ _ _ _ _ _ _ c.from_residual.ensures.1 (rejects-failed _ _ _ _ c.in_err-pad-in-Err.ensures.writes))

pub returns-in-Ok : goal.returns-in-Ok
returns-in-Ok g c = rw c.in-Ok.is c.write_vbr.ensures.writes

pub returns-in_ok-pad-in-Err : goal.returns-in_ok-pad-in-Err
returns-in_ok-pad-in-Err g c = rw c.in-Err.is
    (all_one _ _ _ _ _ (rejects-after _ _ _ _ c.in_ok-pad-in-Err.ensures.writes))
