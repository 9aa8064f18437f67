-- Made by `./format` from formats/quic_stream.fields: edit that file and make this one anew.
use Rattle.std.proofs.Common.{◌∙◌}
use Rattle.bitstream_io.proofs.OwnLemmas.{is_error}
use Rattle.bitstream_io.proofs.WriteParts.{all_append, all_none, all_stop}
use Rattle.bitstream_io.proofs.WriteSteps.{next_call, stop_call}
use Rattle.network_messages.proofs.quic_stream.QuicStream.write.Goals as goal

pub returns-in_err-write_const : goal.returns-in_err-write_const
returns-in_err-write_const g c = stop_call _ _ _ _ _ _ _ c.from_residual.ensures.1 c.in_err-write_const.ensures.writes

pub returns-in_err-write_bit : goal.returns-in_err-write_bit
returns-in_err-write_bit g c = rw (← c.self.view_is) (next_call _ _ _ _ _ _ _ c.in_ok-write_const.ensures.writes
    (stop_call _ _ _ _ _ _ _ c.from_residual-in_err-write_bit.ensures.1 c.in_err-write_bit.ensures.writes))

pub returns-in_err-write_varint : goal.returns-in_err-write_varint
returns-in_err-write_varint g c = rw (← c.self.view_is) (next_call _ _ _ _ _ _ _ c.in_ok-write_const.ensures.writes
    (next_call _ _ _ _ _ _ _ c.in_ok-write_bit.ensures.writes (all_stop _ _ _ _ _ _ _ (is_error _ _
    c.from_residual-in_err-write_varint.ensures.1) c.in_err-write_varint.ensures)))

pub returns-in_err-write_varint-2 : goal.returns-in_err-write_varint-2
returns-in_err-write_varint-2 g c = rw (← c.self.view_is) (next_call _ _ _ _ _ _ _ c.in_ok-write_const.ensures.writes
    (next_call _ _ _ _ _ _ _ c.in_ok-write_bit.ensures.writes (all_append _ _ _ _ _ _ _ c.in_ok-write_varint.ensures
    (all_stop _ _ _ _ _ _ _ (is_error _ _ c.from_residual-in_err-write_varint-2.ensures.1)
    c.in_err-write_varint-2.ensures))))

pub returns-in_err-write_varint-3 : goal.returns-in_err-write_varint-3
returns-in_err-write_varint-3 g c = rw (← c.self.view_is) (next_call _ _ _ _ _ _ _ c.in_ok-write_const.ensures.writes
    (next_call _ _ _ _ _ _ _ c.in_ok-write_bit.ensures.writes (all_append _ _ _ _ _ _ _ c.in_ok-write_varint.ensures
    (all_append _ _ _ _ _ _ _ c.in_ok-write_varint-2.ensures (all_stop _ _ _ _ _ _ _ (is_error _ _
    c.from_residual-in_err-write_varint-3.ensures.1) (rw (c.len.ensures ∙ c.self.inside.data.ok.0) at
    c.in_err-write_varint-3.ensures))))))

pub returns-in_err-write_bytes : goal.returns-in_err-write_bytes
returns-in_err-write_bytes g c = rw (← c.self.view_is) (next_call _ _ _ _ _ _ _ c.in_ok-write_const.ensures.writes
    (next_call _ _ _ _ _ _ _ c.in_ok-write_bit.ensures.writes (all_append _ _ _ _ _ _ _ c.in_ok-write_varint.ensures
    (all_append _ _ _ _ _ _ _ c.in_ok-write_varint-2.ensures (all_append _ _ _ _ _ _ _ (rw (c.len.ensures ∙
    c.self.inside.data.ok.0) at c.in_ok-write_varint-3.ensures) (stop_call _ _ _ _ _ _ _
    c.from_residual-in_err-write_bytes.ensures.1 (rw c.deref.ensures.value at c.in_err-write_bytes.ensures.writes)))))))

pub returns : goal.returns
returns g c = rw (← c.self.view_is) (next_call _ _ _ _ _ _ _ c.in_ok-write_const.ensures.writes (next_call _ _ _ _ _ _ _
    c.in_ok-write_bit.ensures.writes (all_append _ _ _ _ _ _ _ c.in_ok-write_varint.ensures (all_append _ _ _ _ _ _ _
    c.in_ok-write_varint-2.ensures (all_append _ _ _ _ _ _ _ (rw (c.len.ensures ∙ c.self.inside.data.ok.0) at
    c.in_ok-write_varint-3.ensures) (next_call _ _ _ _ _ _ _ (rw c.deref.ensures.value at
    c.in_ok-write_bytes.ensures.writes) (all_none _ _)))))))
