-- Made by `./format` from formats/extensions.fields: edit that file and make this one anew.
use Rattle.bitstream_io.proofs.OwnLemmas.{is_error}
use Rattle.bitstream_format.proofs.WithinLemmas.{size-wrote}
use Rattle.bitstream_io.proofs.WriteParts.{all_append, all_none, all_stop}
use Rattle.bitstream_io.proofs.WriteSteps.{next_write, stop_write}
use Rattle.bitstream_messages.proofs.extensions.Extensions.write.Goals as goal

pub returns-in_err-write_size : goal.returns-in_err-write_size
returns-in_err-write_size g c = rw (← c.self.view_is) (stop_write _ _ _ _ _ _ _ c.from_residual.ensures.1 (size-wrote _
    _ _ _ _ _ _ _ (rw c.deref.ensures.value at c.count_items.ensures) c.in_err-write_size.ensures))

pub returns-in_err-write_items : goal.returns-in_err-write_items
returns-in_err-write_items g c = rw (← c.self.view_is) (next_write _ _ _ _ _ _ _ (size-wrote _ _ _ _ _ _ _ _ (rw
    c.deref.ensures.value at c.count_items.ensures) c.in_ok-write_size.ensures) (all_stop _ _ _ _ _ _ _ (is_error _ _
    c.from_residual-in_err-write_items.ensures.1) (rw c.deref-2.ensures.value at c.in_err-write_items.ensures)))

pub returns : goal.returns
returns g c = rw (← c.self.view_is) (next_write _ _ _ _ _ _ _ (size-wrote _ _ _ _ _ _ _ _ (rw c.deref.ensures.value at
    c.count_items.ensures) c.in_ok-write_size.ensures) (all_append _ _ _ _ _ _ _ (rw c.deref-2.ensures.value at
    c.in_ok-write_items.ensures) (all_none _ _)))
