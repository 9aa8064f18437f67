-- Made by `./answers` from src/picture.rt: when that changes make this one anew.
use Rattle.bitstream_io.proofs.OwnLemmas.{is_error, plainly_written, written_plainly}
use Rattle.bitstream_io.proofs.WriteParts.{all_append, all_stop}
use Rattle.bitstream_io.proofs.WriteSteps.{next_write, stop_write}
use Rattle.bitstream_callers.proofs.picture.PictureToBitStream.to_writer.Goals as goal

pub returns-in_err-write : goal.returns-in_err-write
returns-in_err-write g c = record {
  writes = plainly_written _ _ _ _ _ (stop_write _ _ _ _ _ _ _ c.from_residual.ensures.1 c.in_err-write.ensures.writes);
}

pub returns-in_err-build : goal.returns-in_err-build
returns-in_err-build g c = record {
  writes = plainly_written _ _ _ _ _ (next_write _ _ _ _ _ _ _ c.in_ok-write.ensures.writes (all_stop _ _ _ _ _ _ _
      (is_error _ _ c.from_residual-in_err-build.ensures.1) (written_plainly _ _ _ _ _ c.in_err-build.ensures.writes)));
}

pub returns-in_err-build-2 : goal.returns-in_err-build-2
returns-in_err-build-2 g c = record {
  writes = plainly_written _ _ _ _ _ (next_write _ _ _ _ _ _ _ c.in_ok-write.ensures.writes (all_append _ _ _ _ _ _ _
      (written_plainly _ _ _ _ _ c.in_ok-build.ensures.writes) (all_stop _ _ _ _ _ _ _ (is_error _ _
      c.from_residual-in_err-build-2.ensures.1) (written_plainly _ _ _ _ _ c.in_err-build-2.ensures.writes))));
}

pub returns-in_err-build-3 : goal.returns-in_err-build-3
returns-in_err-build-3 g c = record {
  writes = plainly_written _ _ _ _ _ (next_write _ _ _ _ _ _ _ c.in_ok-write.ensures.writes (all_append _ _ _ _ _ _ _
      (written_plainly _ _ _ _ _ c.in_ok-build.ensures.writes) (all_append _ _ _ _ _ _ _ (written_plainly _ _ _ _ _
      c.in_ok-build-2.ensures.writes) (all_stop _ _ _ _ _ _ _ (is_error _ _ c.from_residual-in_err-build-3.ensures.1)
      (written_plainly _ _ _ _ _ c.in_err-build-3.ensures.writes)))));
}

pub returns : goal.returns
returns g c = record {
  writes = plainly_written _ _ _ _ _ (next_write _ _ _ _ _ _ _ c.in_ok-write.ensures.writes (all_append _ _ _ _ _ _ _
      (written_plainly _ _ _ _ _ c.in_ok-build.ensures.writes) (all_append _ _ _ _ _ _ _ (written_plainly _ _ _ _ _
      c.in_ok-build-2.ensures.writes) (all_append _ _ _ _ _ _ _ (written_plainly _ _ _ _ _
      c.in_ok-build-3.ensures.writes) ((written_plainly _ _ _ _ _ c.build-4.ensures.writes))))));
}
