-- Made by `./format` from formats/flac_block.fields: edit that file and make this one anew.
use Rattle.bitstream_io.proofs.WriteParts.{all_none}
use Rattle.bitstream_io.proofs.WriteSteps.{next_call, stop_call}
use Rattle.media_messages.proofs.flac_block.OtherBody.write.Goals as goal

pub returns-in_err-write_bytes : goal.returns-in_err-write_bytes
returns-in_err-write_bytes g c = rw (← c.self.view_is) (stop_call _ _ _ _ _ _ _ c.from_residual.ensures.1 (rw
    c.deref.ensures.value at c.in_err-write_bytes.ensures.writes))

pub returns : goal.returns
returns g c = rw (← c.self.view_is) (next_call _ _ _ _ _ _ _ (rw c.deref.ensures.value at
    c.in_ok-write_bytes.ensures.writes) (all_none _ _))
