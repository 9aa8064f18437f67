-- Made by `./format` from formats/flac_block.fields: edit that file and make this one anew.
use Rattle.bitstream_io.proofs.OwnLemmas.{is_error}
use Rattle.bitstream_format.proofs.WithinLemmas.{size-wrote}
use Rattle.bitstream_io.proofs.WriteParts.{all_append, all_none, all_stop}
use Rattle.bitstream_io.proofs.WriteSteps.{next_call, next_write, stop_call, stop_write}
use Rattle.media_messages.proofs.flac_block.FlacBlock.write.Goals as goal

pub returns-in_err-write_bit : goal.returns-in_err-write_bit
returns-in_err-write_bit g c = rw (← c.self.view_is) (stop_call _ _ _ _ _ _ _ c.from_residual.ensures.1
    c.in_err-write_bit.ensures.writes)

pub returns-in_err-write : goal.returns-in_err-write
returns-in_err-write g c = rw (← c.self.view_is) (next_call _ _ _ _ _ _ _ c.in_ok-write_bit.ensures.writes (stop_write _
    _ _ _ _ _ _ c.from_residual-in_err-write.ensures.1 (rw c.number.ensures at c.in_err-write.ensures.writes)))

pub returns-in_err-write_size : goal.returns-in_err-write_size
returns-in_err-write_size g c = rw (← c.self.view_is) (next_call _ _ _ _ _ _ _ c.in_ok-write_bit.ensures.writes
    (next_write _ _ _ _ _ _ _ (rw c.number.ensures at c.in_ok-write.ensures.writes) (stop_write _ _ _ _ _ _ _
    c.from_residual-in_err-write_size.ensures.1 (size-wrote _ _ _ _ _ _ _ _ c.bits.ensures.counts
    c.in_err-write_size.ensures))))

pub returns-in_err-write-2 : goal.returns-in_err-write-2
returns-in_err-write-2 g c = rw (← c.self.view_is) (next_call _ _ _ _ _ _ _ c.in_ok-write_bit.ensures.writes (next_write
    _ _ _ _ _ _ _ (rw c.number.ensures at c.in_ok-write.ensures.writes) (next_write _ _ _ _ _ _ _ (size-wrote _ _ _ _ _
    _ _ _ c.bits.ensures.counts c.in_ok-write_size.ensures) (all_stop _ _ _ _ _ _ _ (is_error _ _
    c.from_residual-in_err-write-2.ensures.1) c.in_err-write-2.ensures))))

pub returns : goal.returns
returns g c = rw (← c.self.view_is) (next_call _ _ _ _ _ _ _ c.in_ok-write_bit.ensures.writes (next_write _ _ _ _ _ _ _
    (rw c.number.ensures at c.in_ok-write.ensures.writes) (next_write _ _ _ _ _ _ _ (size-wrote _ _ _ _ _ _ _ _
    c.bits.ensures.counts c.in_ok-write_size.ensures) (all_append _ _ _ _ _ _ _ c.in_ok-write-2.ensures (all_none _
    _)))))
