use Rattle.bitstream_io.proofs.CallerLemmas.{go_grown, stop_grown, grown_end}
use Rattle.flac_codec.proofs.ResultLemmas.{map_stop}
use Rattle.flac_codec.proofs.reading.read_verbatim.Goals as goal

pub returns-in_err-read_samples : goal.returns-in_err-read_samples
returns-in_err-read_samples g c =
    stop_grown _ c.in_err-read_samples.ensures.reads (map_stop c.in_err-read_samples.field-0.0 c.from_residual.result c.from_residual.ensures.1)

pub returns : goal.returns
returns g c =
    go_grown _ c.in_ok-read_samples.ensures.reads (grown_end _ _)
