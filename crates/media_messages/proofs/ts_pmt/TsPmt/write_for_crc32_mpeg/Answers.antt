-- Made by `./format` from formats/ts_pmt.fields: edit that file and make this one anew.
use Rattle.bitstream_io.proofs.OwnLemmas.{is_error}
use Rattle.bitstream_format.proofs.StatedLemmas.{stored-wrote}
use Rattle.bitstream_io.proofs.WriteParts.{all_append, all_none, all_stop}
use Rattle.bitstream_io.proofs.WriteSteps.{next_call, next_write, stop_call, stop_write}
use Rattle.media_messages.proofs.ts_pmt.TsPmt.write_for_crc32_mpeg.Goals as goal

pub returns-in_err-write_const : goal.returns-in_err-write_const
returns-in_err-write_const g c = stop_call _ _ _ _ _ _ _ c.from_residual.ensures.1 c.in_err-write_const.ensures.writes

pub returns-in_err-write_const-2 : goal.returns-in_err-write_const-2
returns-in_err-write_const-2 g c = next_call _ _ _ _ _ _ _ c.in_ok-write_const.ensures.writes (stop_call _ _ _ _ _ _ _
    c.from_residual-in_err-write_const-2.ensures.1 c.in_err-write_const-2.ensures.writes)

pub returns-in_err-write_stored_size : goal.returns-in_err-write_stored_size
returns-in_err-write_stored_size g c = rw (← c.self.view_is) (next_call _ _ _ _ _ _ _ c.in_ok-write_const.ensures.writes
    (next_call _ _ _ _ _ _ _ c.in_ok-write_const-2.ensures.writes (stop_write _ _ _ _ _ _ _
    c.from_residual-in_err-write_stored_size.ensures.1 (stored-wrote _ _ _ 1 13 0 _ _ _ _ _ (rw c.deref.ensures.value at
    c.count_streams.ensures) c.in_err-write_stored_size.ensures))))

pub returns-in_err-write : goal.returns-in_err-write
returns-in_err-write g c = rw (← c.self.view_is) (next_call _ _ _ _ _ _ _ c.in_ok-write_const.ensures.writes (next_call
    _ _ _ _ _ _ _ c.in_ok-write_const-2.ensures.writes (next_write _ _ _ _ _ _ _ (stored-wrote _ _ _ 1 13 0 _ _ _ _ _
    (rw c.deref.ensures.value at c.count_streams.ensures) c.in_ok-write_stored_size.ensures) (stop_write _ _ _ _ _ _ _
    c.from_residual-in_err-write.ensures.1 c.in_err-write.ensures.writes))))

pub returns-in_err-write_const-3 : goal.returns-in_err-write_const-3
returns-in_err-write_const-3 g c = rw (← c.self.view_is) (next_call _ _ _ _ _ _ _ c.in_ok-write_const.ensures.writes
    (next_call _ _ _ _ _ _ _ c.in_ok-write_const-2.ensures.writes (next_write _ _ _ _ _ _ _ (stored-wrote _ _ _ 1 13 0 _
    _ _ _ _ (rw c.deref.ensures.value at c.count_streams.ensures) c.in_ok-write_stored_size.ensures) (next_write _ _ _ _
    _ _ _ c.in_ok-write.ensures.writes (stop_call _ _ _ _ _ _ _ c.from_residual-in_err-write_const-3.ensures.1
    c.in_err-write_const-3.ensures.writes)))))

pub returns-in_err-write-2 : goal.returns-in_err-write-2
returns-in_err-write-2 g c = rw (← c.self.view_is) (next_call _ _ _ _ _ _ _ c.in_ok-write_const.ensures.writes
    (next_call _ _ _ _ _ _ _ c.in_ok-write_const-2.ensures.writes (next_write _ _ _ _ _ _ _ (stored-wrote _ _ _ 1 13 0 _
    _ _ _ _ (rw c.deref.ensures.value at c.count_streams.ensures) c.in_ok-write_stored_size.ensures) (next_write _ _ _ _
    _ _ _ c.in_ok-write.ensures.writes (next_call _ _ _ _ _ _ _ c.in_ok-write_const-3.ensures.writes (stop_write _ _ _ _
    _ _ _ c.from_residual-in_err-write-2.ensures.1 c.in_err-write-2.ensures.writes))))))

pub returns-in_err-write_bit : goal.returns-in_err-write_bit
returns-in_err-write_bit g c = rw (← c.self.view_is) (next_call _ _ _ _ _ _ _ c.in_ok-write_const.ensures.writes
    (next_call _ _ _ _ _ _ _ c.in_ok-write_const-2.ensures.writes (next_write _ _ _ _ _ _ _ (stored-wrote _ _ _ 1 13 0 _
    _ _ _ _ (rw c.deref.ensures.value at c.count_streams.ensures) c.in_ok-write_stored_size.ensures) (next_write _ _ _ _
    _ _ _ c.in_ok-write.ensures.writes (next_call _ _ _ _ _ _ _ c.in_ok-write_const-3.ensures.writes (next_write _ _ _ _
    _ _ _ c.in_ok-write-2.ensures.writes (stop_call _ _ _ _ _ _ _ c.from_residual-in_err-write_bit.ensures.1
    c.in_err-write_bit.ensures.writes)))))))

pub returns-in_err-write_const-4 : goal.returns-in_err-write_const-4
returns-in_err-write_const-4 g c = rw (← c.self.view_is) (next_call _ _ _ _ _ _ _ c.in_ok-write_const.ensures.writes
    (next_call _ _ _ _ _ _ _ c.in_ok-write_const-2.ensures.writes (next_write _ _ _ _ _ _ _ (stored-wrote _ _ _ 1 13 0 _
    _ _ _ _ (rw c.deref.ensures.value at c.count_streams.ensures) c.in_ok-write_stored_size.ensures) (next_write _ _ _ _
    _ _ _ c.in_ok-write.ensures.writes (next_call _ _ _ _ _ _ _ c.in_ok-write_const-3.ensures.writes (next_write _ _ _ _
    _ _ _ c.in_ok-write-2.ensures.writes (next_call _ _ _ _ _ _ _ c.in_ok-write_bit.ensures.writes (stop_call _ _ _ _ _
    _ _ c.from_residual-in_err-write_const-4.ensures.1 c.in_err-write_const-4.ensures.writes))))))))

pub returns-in_err-write_const-5 : goal.returns-in_err-write_const-5
returns-in_err-write_const-5 g c = rw (← c.self.view_is) (next_call _ _ _ _ _ _ _ c.in_ok-write_const.ensures.writes
    (next_call _ _ _ _ _ _ _ c.in_ok-write_const-2.ensures.writes (next_write _ _ _ _ _ _ _ (stored-wrote _ _ _ 1 13 0 _
    _ _ _ _ (rw c.deref.ensures.value at c.count_streams.ensures) c.in_ok-write_stored_size.ensures) (next_write _ _ _ _
    _ _ _ c.in_ok-write.ensures.writes (next_call _ _ _ _ _ _ _ c.in_ok-write_const-3.ensures.writes (next_write _ _ _ _
    _ _ _ c.in_ok-write-2.ensures.writes (next_call _ _ _ _ _ _ _ c.in_ok-write_bit.ensures.writes (next_call _ _ _ _ _
    _ _ c.in_ok-write_const-4.ensures.writes (stop_call _ _ _ _ _ _ _ c.from_residual-in_err-write_const-5.ensures.1
    c.in_err-write_const-5.ensures.writes)))))))))

pub returns-in_err-write-3 : goal.returns-in_err-write-3
returns-in_err-write-3 g c = rw (← c.self.view_is) (next_call _ _ _ _ _ _ _ c.in_ok-write_const.ensures.writes
    (next_call _ _ _ _ _ _ _ c.in_ok-write_const-2.ensures.writes (next_write _ _ _ _ _ _ _ (stored-wrote _ _ _ 1 13 0 _
    _ _ _ _ (rw c.deref.ensures.value at c.count_streams.ensures) c.in_ok-write_stored_size.ensures) (next_write _ _ _ _
    _ _ _ c.in_ok-write.ensures.writes (next_call _ _ _ _ _ _ _ c.in_ok-write_const-3.ensures.writes (next_write _ _ _ _
    _ _ _ c.in_ok-write-2.ensures.writes (next_call _ _ _ _ _ _ _ c.in_ok-write_bit.ensures.writes (next_call _ _ _ _ _
    _ _ c.in_ok-write_const-4.ensures.writes (next_call _ _ _ _ _ _ _ c.in_ok-write_const-5.ensures.writes (stop_write _
    _ _ _ _ _ _ c.from_residual-in_err-write-3.ensures.1 c.in_err-write-3.ensures.writes))))))))))

pub returns-in_err-write_const-6 : goal.returns-in_err-write_const-6
returns-in_err-write_const-6 g c = rw (← c.self.view_is) (next_call _ _ _ _ _ _ _ c.in_ok-write_const.ensures.writes
    (next_call _ _ _ _ _ _ _ c.in_ok-write_const-2.ensures.writes (next_write _ _ _ _ _ _ _ (stored-wrote _ _ _ 1 13 0 _
    _ _ _ _ (rw c.deref.ensures.value at c.count_streams.ensures) c.in_ok-write_stored_size.ensures) (next_write _ _ _ _
    _ _ _ c.in_ok-write.ensures.writes (next_call _ _ _ _ _ _ _ c.in_ok-write_const-3.ensures.writes (next_write _ _ _ _
    _ _ _ c.in_ok-write-2.ensures.writes (next_call _ _ _ _ _ _ _ c.in_ok-write_bit.ensures.writes (next_call _ _ _ _ _
    _ _ c.in_ok-write_const-4.ensures.writes (next_call _ _ _ _ _ _ _ c.in_ok-write_const-5.ensures.writes (next_write _
    _ _ _ _ _ _ c.in_ok-write-3.ensures.writes (stop_call _ _ _ _ _ _ _ c.from_residual-in_err-write_const-6.ensures.1
    c.in_err-write_const-6.ensures.writes)))))))))))

pub returns-in_err-write_streams : goal.returns-in_err-write_streams
returns-in_err-write_streams g c = rw (← c.self.view_is) (next_call _ _ _ _ _ _ _ c.in_ok-write_const.ensures.writes
    (next_call _ _ _ _ _ _ _ c.in_ok-write_const-2.ensures.writes (next_write _ _ _ _ _ _ _ (stored-wrote _ _ _ 1 13 0 _
    _ _ _ _ (rw c.deref.ensures.value at c.count_streams.ensures) c.in_ok-write_stored_size.ensures) (next_write _ _ _ _
    _ _ _ c.in_ok-write.ensures.writes (next_call _ _ _ _ _ _ _ c.in_ok-write_const-3.ensures.writes (next_write _ _ _ _
    _ _ _ c.in_ok-write-2.ensures.writes (next_call _ _ _ _ _ _ _ c.in_ok-write_bit.ensures.writes (next_call _ _ _ _ _
    _ _ c.in_ok-write_const-4.ensures.writes (next_call _ _ _ _ _ _ _ c.in_ok-write_const-5.ensures.writes (next_write _
    _ _ _ _ _ _ c.in_ok-write-3.ensures.writes (next_call _ _ _ _ _ _ _ c.in_ok-write_const-6.ensures.writes (all_stop _
    _ _ _ _ _ _ (is_error _ _ c.from_residual-in_err-write_streams.ensures.1) (rw c.deref-2.ensures.value at
    c.in_err-write_streams.ensures)))))))))))))

pub returns : goal.returns
returns g c = rw (← c.self.view_is) (next_call _ _ _ _ _ _ _ c.in_ok-write_const.ensures.writes (next_call _ _ _ _ _ _ _
    c.in_ok-write_const-2.ensures.writes (next_write _ _ _ _ _ _ _ (stored-wrote _ _ _ 1 13 0 _ _ _ _ _ (rw
    c.deref.ensures.value at c.count_streams.ensures) c.in_ok-write_stored_size.ensures) (next_write _ _ _ _ _ _ _
    c.in_ok-write.ensures.writes (next_call _ _ _ _ _ _ _ c.in_ok-write_const-3.ensures.writes (next_write _ _ _ _ _ _ _
    c.in_ok-write-2.ensures.writes (next_call _ _ _ _ _ _ _ c.in_ok-write_bit.ensures.writes (next_call _ _ _ _ _ _ _
    c.in_ok-write_const-4.ensures.writes (next_call _ _ _ _ _ _ _ c.in_ok-write_const-5.ensures.writes (next_write _ _ _
    _ _ _ _ c.in_ok-write-3.ensures.writes (next_call _ _ _ _ _ _ _ c.in_ok-write_const-6.ensures.writes (all_append _ _
    _ _ _ _ _ (rw c.deref-2.ensures.value at c.in_ok-write_streams.ensures) (all_none _ _)))))))))))))
