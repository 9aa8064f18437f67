-- Made by `./format` from formats/dns_message.fields: edit that file and make this one anew.
use Rattle.bitstream_io.proofs.OwnLemmas.{is_error}
use Rattle.bitstream_io.proofs.WriteParts.{all_append, all_none, all_stop}
use Rattle.bitstream_messages.proofs.dns_message.DnsMessage.write_3.Goals as goal

pub returns-in_err-write_answers : goal.returns-in_err-write_answers
returns-in_err-write_answers g c = rw (← c.self.view_is) (all_stop _ _ _ _ _ _ _ (is_error _ _
    c.from_residual.ensures.1) (rw c.deref.ensures.value at c.in_err-write_answers.ensures))

pub returns-in_err-write_authorities : goal.returns-in_err-write_authorities
returns-in_err-write_authorities g c = rw (← c.self.view_is) (all_append _ _ _ _ _ _ _ (rw c.deref.ensures.value at
    c.in_ok-write_answers.ensures) (all_stop _ _ _ _ _ _ _ (is_error _ _
    c.from_residual-in_err-write_authorities.ensures.1) (rw c.deref-2.ensures.value at
    c.in_err-write_authorities.ensures)))

pub returns-in_err-write_additional : goal.returns-in_err-write_additional
returns-in_err-write_additional g c = rw (← c.self.view_is) (all_append _ _ _ _ _ _ _ (rw c.deref.ensures.value at
    c.in_ok-write_answers.ensures) (all_append _ _ _ _ _ _ _ (rw c.deref-2.ensures.value at
    c.in_ok-write_authorities.ensures) (all_stop _ _ _ _ _ _ _ (is_error _ _
    c.from_residual-in_err-write_additional.ensures.1) (rw c.deref-3.ensures.value at
    c.in_err-write_additional.ensures))))

pub returns : goal.returns
returns g c = rw (← c.self.view_is) (all_append _ _ _ _ _ _ _ (rw c.deref.ensures.value at
    c.in_ok-write_answers.ensures) (all_append _ _ _ _ _ _ _ (rw c.deref-2.ensures.value at
    c.in_ok-write_authorities.ensures) (all_append _ _ _ _ _ _ _ (rw c.deref-3.ensures.value at
    c.in_ok-write_additional.ensures) (all_none _ _))))
