use Rattle.std.proofs.Common.{true}
use Rattle.bitstream_stream.proofs.Reading.BytesLemmas.{map_stops}
use Rattle.bitstream_stream.proofs.Reading.VbrReads.{signed_vbr-stops, signed_vbr-takes}
use Rattle.bitstream_stream.proofs.read.BitRead.read_signed_vbr.Goals as goal

pub returns-in_err-place : goal.returns-in_err-place
returns-in_err-place g c =
    record {
      reads = map_stops _ c.from_residual.result c.from_residual.ensures.1
          (signed_vbr-stops true _ _ _ _ g.met.S.SignedInteger.same_size_law _ c.in_err-place.ensures.reads);
    }

pub returns : goal.returns
returns g c =
    record {
      reads = signed_vbr-takes true _ _ _ _ g.met.S.SignedInteger.same_size_law _ _ c.unzigzag.ensures
          c.in_ok-place.ensures.reads;
    }
