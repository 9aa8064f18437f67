-- Made by `./format` from formats/tftp_request.fields: edit that file and make this one anew.
use Rattle.bitstream_io.proofs.OwnLemmas.{is_error}
use Rattle.bitstream_io.proofs.WriteParts.{all_append, all_none, all_stop}
use Rattle.bitstream_io.proofs.WriteSteps.{next_write, stop_write}
use Rattle.network_messages.proofs.tftp_request.TftpRequest.write.Goals as goal

pub returns-in_err-write : goal.returns-in_err-write
returns-in_err-write g c = rw (← c.self.view_is) (stop_write _ _ _ _ _ _ _ c.from_residual.ensures.1 (rw
    c.number.ensures at c.in_err-write.ensures.writes))

pub returns-in_err-write_until : goal.returns-in_err-write_until
returns-in_err-write_until g c = rw (← c.self.view_is) (next_write _ _ _ _ _ _ _ (rw c.number.ensures at
    c.in_ok-write.ensures.writes) (all_stop _ _ _ _ _ _ _ (is_error _ _ c.from_residual-in_err-write_until.ensures.1)
    (rw c.deref.ensures.value at c.in_err-write_until.ensures)))

pub returns-in_err-write_until-2 : goal.returns-in_err-write_until-2
returns-in_err-write_until-2 g c = rw (← c.self.view_is) (next_write _ _ _ _ _ _ _ (rw c.number.ensures at
    c.in_ok-write.ensures.writes) (all_append _ _ _ _ _ _ _ (rw c.deref.ensures.value at c.in_ok-write_until.ensures)
    (all_stop _ _ _ _ _ _ _ (is_error _ _ c.from_residual-in_err-write_until-2.ensures.1) (rw c.deref-2.ensures.value at
    c.in_err-write_until-2.ensures))))

pub returns : goal.returns
returns g c = rw (← c.self.view_is) (next_write _ _ _ _ _ _ _ (rw c.number.ensures at c.in_ok-write.ensures.writes)
    (all_append _ _ _ _ _ _ _ (rw c.deref.ensures.value at c.in_ok-write_until.ensures) (all_append _ _ _ _ _ _ _ (rw
    c.deref-2.ensures.value at c.in_ok-write_until-2.ensures) (all_none _ _))))
