use Rattle.bitstream_io.proofs.CallerLemmas.{go_grown, stop_grown, grown, grown_end, if_growing, else_growing}
use Rattle.flac_codec.proofs.ResultLemmas.{map_stop}
use Rattle.flac_codec.proofs.reading.read_subframe.Goals as goal

pub returns-in_err-reserved : goal.returns-in_err-reserved
returns-in_err-reserved g c =
    stop_grown _ (grown c.in_err-reserved.ensures.reads) (map_stop c.in_err-reserved.field-0.0 c.from_residual.result c.from_residual.ensures.1)

pub returns-then-reserved : goal.returns-then-reserved
returns-then-reserved g c =
    go_grown _ (grown c.in_ok-reserved.ensures.reads) (if_growing _ _ _ c.if-reserved.true (grown_end _ _))

pub returns : goal.returns
returns g c =
    go_grown _ (grown c.in_ok-reserved.ensures.reads) (else_growing _ _ _ c.if-reserved.false c.read_typed.ensures)
