-- Made by `./format` from formats/dns_message.fields: edit that file and make this one anew.
use Rattle.std.proofs.Common.{◌∙◌}
use Rattle.bitstream_io.proofs.OwnLemmas.{is_error}
use Rattle.bitstream_io.proofs.WriteParts.{all_append, all_stop}
use Rattle.bitstream_io.proofs.WriteSteps.{next_call, next_write, stop_call, stop_write}
use Rattle.bitstream_messages.proofs.dns_message.DnsMessage.write_2.Goals as goal

pub returns-in_err-write_bit : goal.returns-in_err-write_bit
returns-in_err-write_bit g c = rw (← c.self.view_is) (stop_call _ _ _ _ _ _ _ c.from_residual.ensures.1
    c.in_err-write_bit.ensures.writes)

pub returns-in_err-write_bit-2 : goal.returns-in_err-write_bit-2
returns-in_err-write_bit-2 g c = rw (← c.self.view_is) (next_call _ _ _ _ _ _ _ c.in_ok-write_bit.ensures.writes
    (stop_call _ _ _ _ _ _ _ c.from_residual-in_err-write_bit-2.ensures.1 c.in_err-write_bit-2.ensures.writes))

pub returns-in_err-write : goal.returns-in_err-write
returns-in_err-write g c = rw (← c.self.view_is) (next_call _ _ _ _ _ _ _ c.in_ok-write_bit.ensures.writes (next_call _
    _ _ _ _ _ _ c.in_ok-write_bit-2.ensures.writes (stop_write _ _ _ _ _ _ _ c.from_residual-in_err-write.ensures.1
    c.in_err-write.ensures.writes)))

pub returns-in_err-write-2 : goal.returns-in_err-write-2
returns-in_err-write-2 g c = rw (← c.self.view_is) (next_call _ _ _ _ _ _ _ c.in_ok-write_bit.ensures.writes (next_call
    _ _ _ _ _ _ _ c.in_ok-write_bit-2.ensures.writes (next_write _ _ _ _ _ _ _ c.in_ok-write.ensures.writes (stop_write
    _ _ _ _ _ _ _ c.from_residual-in_err-write-2.ensures.1 (rw (c.len.ensures ∙ c.self.inside.questions.ok.0) at
    c.in_err-write-2.ensures.writes)))))

pub returns-in_err-write-3 : goal.returns-in_err-write-3
returns-in_err-write-3 g c = rw (← c.self.view_is) (next_call _ _ _ _ _ _ _ c.in_ok-write_bit.ensures.writes (next_call
    _ _ _ _ _ _ _ c.in_ok-write_bit-2.ensures.writes (next_write _ _ _ _ _ _ _ c.in_ok-write.ensures.writes (next_write
    _ _ _ _ _ _ _ (rw (c.len.ensures ∙ c.self.inside.questions.ok.0) at c.in_ok-write-2.ensures.writes) (stop_write _ _
    _ _ _ _ _ c.from_residual-in_err-write-3.ensures.1 (rw (c.len-2.ensures ∙ c.self.inside.answers.ok.0) at
    c.in_err-write-3.ensures.writes))))))

pub returns-in_err-write-4 : goal.returns-in_err-write-4
returns-in_err-write-4 g c = rw (← c.self.view_is) (next_call _ _ _ _ _ _ _ c.in_ok-write_bit.ensures.writes (next_call
    _ _ _ _ _ _ _ c.in_ok-write_bit-2.ensures.writes (next_write _ _ _ _ _ _ _ c.in_ok-write.ensures.writes (next_write
    _ _ _ _ _ _ _ (rw (c.len.ensures ∙ c.self.inside.questions.ok.0) at c.in_ok-write-2.ensures.writes) (next_write _ _
    _ _ _ _ _ (rw (c.len-2.ensures ∙ c.self.inside.answers.ok.0) at c.in_ok-write-3.ensures.writes) (stop_write _ _ _ _
    _ _ _ c.from_residual-in_err-write-4.ensures.1 (rw (c.len-3.ensures ∙ c.self.inside.authorities.ok.0) at
    c.in_err-write-4.ensures.writes)))))))

pub returns-in_err-write-5 : goal.returns-in_err-write-5
returns-in_err-write-5 g c = rw (← c.self.view_is) (next_call _ _ _ _ _ _ _ c.in_ok-write_bit.ensures.writes (next_call
    _ _ _ _ _ _ _ c.in_ok-write_bit-2.ensures.writes (next_write _ _ _ _ _ _ _ c.in_ok-write.ensures.writes (next_write
    _ _ _ _ _ _ _ (rw (c.len.ensures ∙ c.self.inside.questions.ok.0) at c.in_ok-write-2.ensures.writes) (next_write _ _
    _ _ _ _ _ (rw (c.len-2.ensures ∙ c.self.inside.answers.ok.0) at c.in_ok-write-3.ensures.writes) (next_write _ _ _ _
    _ _ _ (rw (c.len-3.ensures ∙ c.self.inside.authorities.ok.0) at c.in_ok-write-4.ensures.writes) (stop_write _ _ _ _
    _ _ _ c.from_residual-in_err-write-5.ensures.1 (rw (c.len-4.ensures ∙ c.self.inside.additional.ok.0) at
    c.in_err-write-5.ensures.writes))))))))

pub returns-in_err-write_questions : goal.returns-in_err-write_questions
returns-in_err-write_questions g c = rw (← c.self.view_is) (next_call _ _ _ _ _ _ _ c.in_ok-write_bit.ensures.writes
    (next_call _ _ _ _ _ _ _ c.in_ok-write_bit-2.ensures.writes (next_write _ _ _ _ _ _ _ c.in_ok-write.ensures.writes
    (next_write _ _ _ _ _ _ _ (rw (c.len.ensures ∙ c.self.inside.questions.ok.0) at c.in_ok-write-2.ensures.writes)
    (next_write _ _ _ _ _ _ _ (rw (c.len-2.ensures ∙ c.self.inside.answers.ok.0) at c.in_ok-write-3.ensures.writes)
    (next_write _ _ _ _ _ _ _ (rw (c.len-3.ensures ∙ c.self.inside.authorities.ok.0) at c.in_ok-write-4.ensures.writes)
    (next_write _ _ _ _ _ _ _ (rw (c.len-4.ensures ∙ c.self.inside.additional.ok.0) at c.in_ok-write-5.ensures.writes)
    (all_stop _ _ _ _ _ _ _ (is_error _ _ c.from_residual-in_err-write_questions.ensures.1) (rw c.deref.ensures.value at
    c.in_err-write_questions.ensures)))))))))

pub returns : goal.returns
returns g c = rw (← c.self.view_is) (next_call _ _ _ _ _ _ _ c.in_ok-write_bit.ensures.writes (next_call _ _ _ _ _ _ _
    c.in_ok-write_bit-2.ensures.writes (next_write _ _ _ _ _ _ _ c.in_ok-write.ensures.writes (next_write _ _ _ _ _ _ _
    (rw (c.len.ensures ∙ c.self.inside.questions.ok.0) at c.in_ok-write-2.ensures.writes) (next_write _ _ _ _ _ _ _ (rw
    (c.len-2.ensures ∙ c.self.inside.answers.ok.0) at c.in_ok-write-3.ensures.writes) (next_write _ _ _ _ _ _ _ (rw
    (c.len-3.ensures ∙ c.self.inside.authorities.ok.0) at c.in_ok-write-4.ensures.writes) (next_write _ _ _ _ _ _ _ (rw
    (c.len-4.ensures ∙ c.self.inside.additional.ok.0) at c.in_ok-write-5.ensures.writes) (all_append _ _ _ _ _ _ _ (rw
    c.deref.ensures.value at c.in_ok-write_questions.ensures) ((rw (← c.self.view_is) at c.write_3.ensures))))))))))
