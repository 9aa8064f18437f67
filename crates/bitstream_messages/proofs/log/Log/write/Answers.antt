-- Made by `./format` from formats/log.fields: edit that file and make this one anew.
use Rattle.bitstream_io.proofs.OwnLemmas.{is_error}
use Rattle.bitstream_format.proofs.WithinLemmas.{size-wrote}
use Rattle.bitstream_io.proofs.WriteParts.{all_append, all_none, all_stop}
use Rattle.bitstream_io.proofs.WriteSteps.{next_write, stop_write}
use Rattle.bitstream_messages.proofs.log.Log.write.Goals as goal

pub returns-in_err-write_size : goal.returns-in_err-write_size
returns-in_err-write_size g c = rw (← c.self.view_is) (stop_write _ _ _ _ _ _ _ c.from_residual.ensures.1 (size-wrote _
    _ _ _ _ _ _ _ (rw c.deref.ensures.value at c.count_acks.ensures) c.in_err-write_size.ensures))

pub returns-in_err-write_size-2 : goal.returns-in_err-write_size-2
returns-in_err-write_size-2 g c = rw (← c.self.view_is) (next_write _ _ _ _ _ _ _ (size-wrote _ _ _ _ _ _ _ _ (rw
    c.deref.ensures.value at c.count_acks.ensures) c.in_ok-write_size.ensures) (stop_write _ _ _ _ _ _ _
    c.from_residual-in_err-write_size-2.ensures.1 (size-wrote _ _ _ _ _ _ _ _ (rw c.deref-2.ensures.value at
    c.count_marks.ensures) c.in_err-write_size-2.ensures)))

pub returns-in_err-write_acks : goal.returns-in_err-write_acks
returns-in_err-write_acks g c = rw (← c.self.view_is) (next_write _ _ _ _ _ _ _ (size-wrote _ _ _ _ _ _ _ _ (rw
    c.deref.ensures.value at c.count_acks.ensures) c.in_ok-write_size.ensures) (next_write _ _ _ _ _ _ _ (size-wrote _ _
    _ _ _ _ _ _ (rw c.deref-2.ensures.value at c.count_marks.ensures) c.in_ok-write_size-2.ensures) (all_stop _ _ _ _ _
    _ _ (is_error _ _ c.from_residual-in_err-write_acks.ensures.1) (rw c.deref-3.ensures.value at
    c.in_err-write_acks.ensures))))

pub returns-in_err-write_marks : goal.returns-in_err-write_marks
returns-in_err-write_marks g c = rw (← c.self.view_is) (next_write _ _ _ _ _ _ _ (size-wrote _ _ _ _ _ _ _ _ (rw
    c.deref.ensures.value at c.count_acks.ensures) c.in_ok-write_size.ensures) (next_write _ _ _ _ _ _ _ (size-wrote _ _
    _ _ _ _ _ _ (rw c.deref-2.ensures.value at c.count_marks.ensures) c.in_ok-write_size-2.ensures) (all_append _ _ _ _
    _ _ _ (rw c.deref-3.ensures.value at c.in_ok-write_acks.ensures) (all_stop _ _ _ _ _ _ _ (is_error _ _
    c.from_residual-in_err-write_marks.ensures.1) (rw c.deref-4.ensures.value at c.in_err-write_marks.ensures)))))

pub returns : goal.returns
returns g c = rw (← c.self.view_is) (next_write _ _ _ _ _ _ _ (size-wrote _ _ _ _ _ _ _ _ (rw c.deref.ensures.value at
    c.count_acks.ensures) c.in_ok-write_size.ensures) (next_write _ _ _ _ _ _ _ (size-wrote _ _ _ _ _ _ _ _ (rw
    c.deref-2.ensures.value at c.count_marks.ensures) c.in_ok-write_size-2.ensures) (all_append _ _ _ _ _ _ _ (rw
    c.deref-3.ensures.value at c.in_ok-write_acks.ensures) (all_append _ _ _ _ _ _ _ (rw c.deref-4.ensures.value at
    c.in_ok-write_marks.ensures) (all_none _ _)))))
