-- Made by `./format` from formats/dns_label.fields: edit that file and make this one anew.
use Rattle.bitstream_io.proofs.OwnLemmas.{is_error}
use Rattle.bitstream_io.proofs.WriteParts.{all_append, all_none, all_stop}
use Rattle.bitstream_io.proofs.WriteSteps.{next_write, stop_write}
use Rattle.bitstream_messages.proofs.dns_label.DnsLabel.write.Goals as goal

pub returns-in_err-write : goal.returns-in_err-write
returns-in_err-write g c = rw (← c.self.view_is) (stop_write _ _ _ _ _ _ _ c.from_residual.ensures.1 (rw
    c.number.ensures at c.in_err-write.ensures.writes))

pub returns-in_err-write-2 : goal.returns-in_err-write-2
returns-in_err-write-2 g c = rw (← c.self.view_is) (next_write _ _ _ _ _ _ _ (rw c.number.ensures at
    c.in_ok-write.ensures.writes) (all_stop _ _ _ _ _ _ _ (is_error _ _ c.from_residual-in_err-write-2.ensures.1)
    c.in_err-write-2.ensures))

pub returns : goal.returns
returns g c = rw (← c.self.view_is) (next_write _ _ _ _ _ _ _ (rw c.number.ensures at c.in_ok-write.ensures.writes)
    (all_append _ _ _ _ _ _ _ c.in_ok-write-2.ensures (all_none _ _)))
