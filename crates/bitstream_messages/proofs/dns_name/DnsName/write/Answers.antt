-- Made by `./format` from formats/dns_name.fields: edit that file and make this one anew.
use Rattle.bitstream_io.proofs.OwnLemmas.{is_error}
use Rattle.bitstream_io.proofs.WriteParts.{all_append, all_none, all_stop}
use Rattle.bitstream_messages.proofs.dns_name.DnsName.write.Goals as goal

pub returns-in_err-write_labels : goal.returns-in_err-write_labels
returns-in_err-write_labels g c = rw (← c.self.view_is) (all_stop _ _ _ _ _ _ _ (is_error _ _ c.from_residual.ensures.1)
    (rw c.deref.ensures.value at c.in_err-write_labels.ensures))

pub returns : goal.returns
returns g c = rw (← c.self.view_is) (all_append _ _ _ _ _ _ _ (rw c.deref.ensures.value at c.in_ok-write_labels.ensures)
    (all_none _ _))
