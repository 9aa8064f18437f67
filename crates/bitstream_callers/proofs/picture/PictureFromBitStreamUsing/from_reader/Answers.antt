-- Made by `./answers` from src/picture.rt: when that changes make this one anew.
use Rattle.std.proofs.Common.{false}
use Rattle.bitstream_io.proofs.GrowsLemmas.{go_grown, stop_grown, grown, if_grown, part_go, part_stop, grown_end}
use Rattle.bitstream_io.proofs.OwnLemmas.{is_error}
use Rattle.bitstream_callers.proofs.picture.PictureFromBitStreamUsing.from_reader.Goals as goal

pub returns-in_err-read : goal.returns-in_err-read
returns-in_err-read g c = record { reads = stop_grown _ (grown c.in_err-read.ensures.reads) c.from_residual.ensures.1 }

pub returns-in_err-parse_using : goal.returns-in_err-parse_using
returns-in_err-parse_using g c = record {
  reads = go_grown _ (grown c.in_ok-read.ensures.reads) (part_stop _ c.in_err-parse_using.ensures.reads (is_error _ _
      c.from_residual-in_err-parse_using.ensures.1));
}

pub returns-in_err-parse_using-2 : goal.returns-in_err-parse_using-2
returns-in_err-parse_using-2 g c = record {
  reads = go_grown _ (grown c.in_ok-read.ensures.reads) (part_go _ c.in_ok-parse_using.ensures.reads (part_stop _
      c.in_err-parse_using-2.ensures.reads (is_error _ _ c.from_residual-in_err-parse_using-2.ensures.1)));
}

pub returns-in_err-parse : goal.returns-in_err-parse
returns-in_err-parse g c = record {
  reads = go_grown _ (grown c.in_ok-read.ensures.reads) (part_go _ c.in_ok-parse_using.ensures.reads (part_go _
      c.in_ok-parse_using-2.ensures.reads (part_stop _ (if_grown false c.in_err-parse.ensures.reads) (is_error _ _
      c.from_residual-in_err-parse.ensures.1))));
}

pub returns-in_err-parse_using-3 : goal.returns-in_err-parse_using-3
returns-in_err-parse_using-3 g c = record {
  reads = go_grown _ (grown c.in_ok-read.ensures.reads) (part_go _ c.in_ok-parse_using.ensures.reads (part_go _
      c.in_ok-parse_using-2.ensures.reads (part_go _ (if_grown false c.in_ok-parse.ensures.reads) (part_stop _
      c.in_err-parse_using-3.ensures.reads (is_error _ _ c.from_residual-in_err-parse_using-3.ensures.1)))));
}

pub returns : goal.returns
returns g c = record {
  reads = go_grown _ (grown c.in_ok-read.ensures.reads) (part_go _ c.in_ok-parse_using.ensures.reads (part_go _
      c.in_ok-parse_using-2.ensures.reads (part_go _ (if_grown false c.in_ok-parse.ensures.reads) (part_go _
      c.in_ok-parse_using-3.ensures.reads (grown_end _ _)))));
}
