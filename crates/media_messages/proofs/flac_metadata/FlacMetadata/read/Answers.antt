-- Made by `./format` from formats/flac_metadata.fields: edit that file and make this one anew.
use Rattle.std.proofs.Common.{refl}
use Rattle.bitstream_io.proofs.CallerLemmas.{next_grown_const, exit_grown_const}
use Rattle.bitstream_io.proofs.GrowsLemmas.{part_go, part_stop, grown_end}
use Rattle.bitstream_io.proofs.OwnLemmas.{is_error}
use Rattle.media_messages.proofs.flac_metadata.FlacMetadata.read.Goals as goal

pub returns-in_err-read_const : goal.returns-in_err-read_const
returns-in_err-read_const g c = exit_grown_const _ _ c.from_residual.ensures.1 c.in_err-read_const.ensures.reads refl

pub returns-in_err-blocks : goal.returns-in_err-blocks
returns-in_err-blocks g c = next_grown_const _ _ c.in_ok-read_const.ensures.reads (part_stop _ c.in_err-blocks.ensures
    (is_error _ _ c.from_residual-in_err-blocks.ensures.1))

pub returns : goal.returns
returns g c = next_grown_const _ _ c.in_ok-read_const.ensures.reads (part_go _ c.in_ok-blocks.ensures (grown_end _ _))
