use Rattle.bitstream_io.proofs.CallerLemmas.{go_grown, stop_grown, grown, if_growing, else_growing}
use Rattle.flac_codec.proofs.ResultLemmas.{map_stop}
use Rattle.flac_codec.proofs.reading.read_typed.Goals as goal

pub returns-in_err-kind : goal.returns-in_err-kind
returns-in_err-kind g c =
    stop_grown _ (grown c.in_err-kind.ensures.reads) (map_stop c.in_err-kind.field-0.0 c.from_residual.result c.from_residual.ensures.1)

pub returns-in_err-wasted : goal.returns-in_err-wasted
returns-in_err-wasted g c =
    go_grown _ (grown c.in_ok-kind.ensures.reads) (stop_grown _ (grown c.in_err-wasted.ensures.reads) (map_stop c.in_err-wasted.field-0.0 c.from_residual-in_err-wasted.result c.from_residual-in_err-wasted.ensures.1))

pub returns-then-wasted : goal.returns-then-wasted
returns-then-wasted g c =
    go_grown _ (grown c.in_ok-kind.ensures.reads) (go_grown _ (grown c.in_ok-wasted.ensures.reads)
    (if_growing _ _ _ c.if-wasted.true c.read_wasted.ensures))

pub returns : goal.returns
returns g c =
    go_grown _ (grown c.in_ok-kind.ensures.reads) (go_grown _ (grown c.in_ok-wasted.ensures.reads) (else_growing _ _ _ c.if-wasted.false c.read_kind.ensures))
