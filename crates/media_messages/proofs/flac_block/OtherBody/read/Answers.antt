-- Made by `./format` from formats/flac_block.fields: edit that file and make this one anew.
use Rattle.bitstream_io.proofs.GrowsLemmas.{go_grown, stop_grown, vec-grown, grown_end}
use Rattle.media_messages.proofs.flac_block.OtherBody.read.Goals as goal

pub returns-in_err-bytes : goal.returns-in_err-bytes
returns-in_err-bytes g c = stop_grown _ (vec-grown _ _ c.in_err-bytes.ensures.reads) c.from_residual.ensures.1

pub returns : goal.returns
returns g c = go_grown _ (vec-grown _ _ c.in_ok-bytes.ensures.reads) (grown_end _ _)
