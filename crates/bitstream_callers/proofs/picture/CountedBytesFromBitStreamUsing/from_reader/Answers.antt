-- Made by `./answers` from src/picture.rt: when that changes make this one anew.
use Rattle.bitstream_io.proofs.GrowsLemmas.{go_grown, stop_grown, grown, vec-grown, grown_end}
use Rattle.bitstream_callers.proofs.picture.CountedBytesFromBitStreamUsing.from_reader.Goals as goal

pub returns-in_err-size : goal.returns-in_err-size
returns-in_err-size g c = record { reads = stop_grown _ (grown c.in_err-size.ensures.reads) c.from_residual.ensures.1 }

pub returns-in_err-bytes : goal.returns-in_err-bytes
returns-in_err-bytes g c = record {
  reads = go_grown _ (grown c.in_ok-size.ensures.reads) (stop_grown _ (vec-grown _ _ c.in_err-bytes.ensures.reads)
      c.from_residual-in_err-bytes.ensures.1);
}

pub returns : goal.returns
returns g c = record {
  reads = go_grown _ (grown c.in_ok-size.ensures.reads) (go_grown _ (vec-grown _ _ c.in_ok-bytes.ensures.reads)
      (grown_end _ _));
}
