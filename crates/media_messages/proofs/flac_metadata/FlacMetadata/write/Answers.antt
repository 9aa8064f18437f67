-- Made by `./format` from formats/flac_metadata.fields: edit that file and make this one anew.
use Rattle.bitstream_io.proofs.OwnLemmas.{is_error}
use Rattle.bitstream_io.proofs.WriteParts.{all_append, all_none, all_stop}
use Rattle.bitstream_io.proofs.WriteSteps.{next_call, stop_call}
use Rattle.media_messages.proofs.flac_metadata.FlacMetadata.write.Goals as goal

pub returns-in_err-write_const : goal.returns-in_err-write_const
returns-in_err-write_const g c = stop_call _ _ _ _ _ _ _ c.from_residual.ensures.1 c.in_err-write_const.ensures.writes

pub returns-in_err-write_blocks : goal.returns-in_err-write_blocks
returns-in_err-write_blocks g c = rw (← c.self.view_is) (next_call _ _ _ _ _ _ _ c.in_ok-write_const.ensures.writes
    (all_stop _ _ _ _ _ _ _ (is_error _ _ c.from_residual-in_err-write_blocks.ensures.1) (rw c.deref.ensures.value at
    c.in_err-write_blocks.ensures)))

pub returns : goal.returns
returns g c = rw (← c.self.view_is) (next_call _ _ _ _ _ _ _ c.in_ok-write_const.ensures.writes (all_append _ _ _ _ _ _
    _ (rw c.deref.ensures.value at c.in_ok-write_blocks.ensures) (all_none _ _)))
