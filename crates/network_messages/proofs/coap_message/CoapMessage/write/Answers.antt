-- Made by `./format` from formats/coap_message.fields: edit that file and make this one anew.
use Rattle.std.proofs.Common.{◌∙◌}
use Rattle.bitstream_io.proofs.OwnLemmas.{is_error}
use Rattle.bitstream_io.proofs.WriteParts.{all_append, all_none, all_stop}
use Rattle.bitstream_io.proofs.WriteSteps.{next_call, next_write, stop_call, stop_write}
use Rattle.network_messages.proofs.coap_message.CoapMessage.write.Goals as goal

pub returns-in_err-write_const : goal.returns-in_err-write_const
returns-in_err-write_const g c = stop_call _ _ _ _ _ _ _ c.from_residual.ensures.1 c.in_err-write_const.ensures.writes

pub returns-in_err-write : goal.returns-in_err-write
returns-in_err-write g c = rw (← c.self.view_is) (next_call _ _ _ _ _ _ _ c.in_ok-write_const.ensures.writes (stop_write
    _ _ _ _ _ _ _ c.from_residual-in_err-write.ensures.1 (rw c.number.ensures at c.in_err-write.ensures.writes)))

pub returns-in_err-write_token_count : goal.returns-in_err-write_token_count
returns-in_err-write_token_count g c = rw (← c.self.view_is) (next_call _ _ _ _ _ _ _ c.in_ok-write_const.ensures.writes
    (next_write _ _ _ _ _ _ _ (rw c.number.ensures at c.in_ok-write.ensures.writes) (all_stop _ _ _ _ _ _ _ (is_error _
    _ c.from_residual-in_err-write_token_count.ensures.1) (rw (c.len.ensures ∙ c.self.inside.token.ok.0) at
    c.in_err-write_token_count.ensures))))

pub returns-in_err-write-2 : goal.returns-in_err-write-2
returns-in_err-write-2 g c = rw (← c.self.view_is) (next_call _ _ _ _ _ _ _ c.in_ok-write_const.ensures.writes
    (next_write _ _ _ _ _ _ _ (rw c.number.ensures at c.in_ok-write.ensures.writes) (all_append _ _ _ _ _ _ _ (rw
    (c.len.ensures ∙ c.self.inside.token.ok.0) at c.in_ok-write_token_count.ensures) (stop_write _ _ _ _ _ _ _
    c.from_residual-in_err-write-2.ensures.1 c.in_err-write-2.ensures.writes))))

pub returns-in_err-write-3 : goal.returns-in_err-write-3
returns-in_err-write-3 g c = rw (← c.self.view_is) (next_call _ _ _ _ _ _ _ c.in_ok-write_const.ensures.writes
    (next_write _ _ _ _ _ _ _ (rw c.number.ensures at c.in_ok-write.ensures.writes) (all_append _ _ _ _ _ _ _ (rw
    (c.len.ensures ∙ c.self.inside.token.ok.0) at c.in_ok-write_token_count.ensures) (next_write _ _ _ _ _ _ _
    c.in_ok-write-2.ensures.writes (stop_write _ _ _ _ _ _ _ c.from_residual-in_err-write-3.ensures.1
    c.in_err-write-3.ensures.writes)))))

pub returns-in_err-write-4 : goal.returns-in_err-write-4
returns-in_err-write-4 g c = rw (← c.self.view_is) (next_call _ _ _ _ _ _ _ c.in_ok-write_const.ensures.writes
    (next_write _ _ _ _ _ _ _ (rw c.number.ensures at c.in_ok-write.ensures.writes) (all_append _ _ _ _ _ _ _ (rw
    (c.len.ensures ∙ c.self.inside.token.ok.0) at c.in_ok-write_token_count.ensures) (next_write _ _ _ _ _ _ _
    c.in_ok-write-2.ensures.writes (next_write _ _ _ _ _ _ _ c.in_ok-write-3.ensures.writes (stop_write _ _ _ _ _ _ _
    c.from_residual-in_err-write-4.ensures.1 c.in_err-write-4.ensures.writes))))))

pub returns-in_err-write_bytes : goal.returns-in_err-write_bytes
returns-in_err-write_bytes g c = rw (← c.self.view_is) (next_call _ _ _ _ _ _ _ c.in_ok-write_const.ensures.writes
    (next_write _ _ _ _ _ _ _ (rw c.number.ensures at c.in_ok-write.ensures.writes) (all_append _ _ _ _ _ _ _ (rw
    (c.len.ensures ∙ c.self.inside.token.ok.0) at c.in_ok-write_token_count.ensures) (next_write _ _ _ _ _ _ _
    c.in_ok-write-2.ensures.writes (next_write _ _ _ _ _ _ _ c.in_ok-write-3.ensures.writes (next_write _ _ _ _ _ _ _
    c.in_ok-write-4.ensures.writes (stop_call _ _ _ _ _ _ _ c.from_residual-in_err-write_bytes.ensures.1 (rw
    c.deref.ensures.value at c.in_err-write_bytes.ensures.writes))))))))

pub returns-in_err-write_bytes-2 : goal.returns-in_err-write_bytes-2
returns-in_err-write_bytes-2 g c = rw (← c.self.view_is) (next_call _ _ _ _ _ _ _ c.in_ok-write_const.ensures.writes
    (next_write _ _ _ _ _ _ _ (rw c.number.ensures at c.in_ok-write.ensures.writes) (all_append _ _ _ _ _ _ _ (rw
    (c.len.ensures ∙ c.self.inside.token.ok.0) at c.in_ok-write_token_count.ensures) (next_write _ _ _ _ _ _ _
    c.in_ok-write-2.ensures.writes (next_write _ _ _ _ _ _ _ c.in_ok-write-3.ensures.writes (next_write _ _ _ _ _ _ _
    c.in_ok-write-4.ensures.writes (next_call _ _ _ _ _ _ _ (rw c.deref.ensures.value at
    c.in_ok-write_bytes.ensures.writes) (stop_call _ _ _ _ _ _ _ c.from_residual-in_err-write_bytes-2.ensures.1 (rw
    c.deref-2.ensures.value at c.in_err-write_bytes-2.ensures.writes)))))))))

pub returns : goal.returns
returns g c = rw (← c.self.view_is) (next_call _ _ _ _ _ _ _ c.in_ok-write_const.ensures.writes (next_write _ _ _ _ _ _
    _ (rw c.number.ensures at c.in_ok-write.ensures.writes) (all_append _ _ _ _ _ _ _ (rw (c.len.ensures ∙
    c.self.inside.token.ok.0) at c.in_ok-write_token_count.ensures) (next_write _ _ _ _ _ _ _
    c.in_ok-write-2.ensures.writes (next_write _ _ _ _ _ _ _ c.in_ok-write-3.ensures.writes (next_write _ _ _ _ _ _ _
    c.in_ok-write-4.ensures.writes (next_call _ _ _ _ _ _ _ (rw c.deref.ensures.value at
    c.in_ok-write_bytes.ensures.writes) (next_call _ _ _ _ _ _ _ (rw c.deref-2.ensures.value at
    c.in_ok-write_bytes-2.ensures.writes) (all_none _ _)))))))))
