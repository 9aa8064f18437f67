-- Made by `./format` from formats/ntp_packet.fields: edit that file and make this one anew.
use borrow.Author.Rules.{sfits_of}
use Rattle.std.proofs.Common.{w8}
use Rattle.bitstream_io.proofs.OwnLemmas.{is_error}
use Rattle.bitstream_io.proofs.WriteParts.{all_append, all_none, all_stop}
use Rattle.bitstream_io.proofs.WriteSteps.{next_call, next_write, next_signed, stop_call, stop_write, stop_signed}
use Rattle.protocols.proofs.ntp_packet.NtpPacket.write.Goals as goal

pub returns-in_err-write : goal.returns-in_err-write
returns-in_err-write g c = stop_write _ _ _ _ _ _ _ c.from_residual.ensures.1 (rw c.number.ensures at
    c.in_err-write.ensures.writes)

pub returns-in_err-write-2 : goal.returns-in_err-write-2
returns-in_err-write-2 g c = next_write _ _ _ _ _ _ _ (rw c.number.ensures at c.in_ok-write.ensures.writes) (stop_write
    _ _ _ _ _ _ _ c.from_residual-in_err-write-2.ensures.1 c.in_err-write-2.ensures.writes)

pub returns-in_err-write-3 : goal.returns-in_err-write-3
returns-in_err-write-3 g c = next_write _ _ _ _ _ _ _ (rw c.number.ensures at c.in_ok-write.ensures.writes) (next_write
    _ _ _ _ _ _ _ c.in_ok-write-2.ensures.writes (stop_write _ _ _ _ _ _ _ c.from_residual-in_err-write-3.ensures.1 (rw
    c.number-2.ensures at c.in_err-write-3.ensures.writes)))

pub returns-in_err-write-4 : goal.returns-in_err-write-4
returns-in_err-write-4 g c = next_write _ _ _ _ _ _ _ (rw c.number.ensures at c.in_ok-write.ensures.writes) (next_write
    _ _ _ _ _ _ _ c.in_ok-write-2.ensures.writes (next_write _ _ _ _ _ _ _ (rw c.number-2.ensures at
    c.in_ok-write-3.ensures.writes) (stop_write _ _ _ _ _ _ _ c.from_residual-in_err-write-4.ensures.1
    c.in_err-write-4.ensures.writes)))

pub returns-in_err-write-5 : goal.returns-in_err-write-5
returns-in_err-write-5 g c = next_write _ _ _ _ _ _ _ (rw c.number.ensures at c.in_ok-write.ensures.writes) (next_write
    _ _ _ _ _ _ _ c.in_ok-write-2.ensures.writes (next_write _ _ _ _ _ _ _ (rw c.number-2.ensures at
    c.in_ok-write-3.ensures.writes) (next_write _ _ _ _ _ _ _ c.in_ok-write-4.ensures.writes (stop_signed _ _ _ _ _ _ _
    w8 _ _ _ c.from_residual-in_err-write-5.ensures.1 c.in_err-write-5.ensures.writes (search sfits_of)))))

pub returns-in_err-write-6 : goal.returns-in_err-write-6
returns-in_err-write-6 g c = next_write _ _ _ _ _ _ _ (rw c.number.ensures at c.in_ok-write.ensures.writes) (next_write
    _ _ _ _ _ _ _ c.in_ok-write-2.ensures.writes (next_write _ _ _ _ _ _ _ (rw c.number-2.ensures at
    c.in_ok-write-3.ensures.writes) (next_write _ _ _ _ _ _ _ c.in_ok-write-4.ensures.writes (next_signed _ _ _ _ _ _ _
    w8 _ _ _ c.in_ok-write-5.ensures.writes (search sfits_of) (stop_signed _ _ _ _ _ _ _ w8 _ _ _
    c.from_residual-in_err-write-6.ensures.1 c.in_err-write-6.ensures.writes (search sfits_of))))))

pub returns-in_err-write-7 : goal.returns-in_err-write-7
returns-in_err-write-7 g c = next_write _ _ _ _ _ _ _ (rw c.number.ensures at c.in_ok-write.ensures.writes) (next_write
    _ _ _ _ _ _ _ c.in_ok-write-2.ensures.writes (next_write _ _ _ _ _ _ _ (rw c.number-2.ensures at
    c.in_ok-write-3.ensures.writes) (next_write _ _ _ _ _ _ _ c.in_ok-write-4.ensures.writes (next_signed _ _ _ _ _ _ _
    w8 _ _ _ c.in_ok-write-5.ensures.writes (search sfits_of) (next_signed _ _ _ _ _ _ _ w8 _ _ _
    c.in_ok-write-6.ensures.writes (search sfits_of) (stop_write _ _ _ _ _ _ _ c.from_residual-in_err-write-7.ensures.1
    c.in_err-write-7.ensures.writes))))))

pub returns-in_err-write-8 : goal.returns-in_err-write-8
returns-in_err-write-8 g c = next_write _ _ _ _ _ _ _ (rw c.number.ensures at c.in_ok-write.ensures.writes) (next_write
    _ _ _ _ _ _ _ c.in_ok-write-2.ensures.writes (next_write _ _ _ _ _ _ _ (rw c.number-2.ensures at
    c.in_ok-write-3.ensures.writes) (next_write _ _ _ _ _ _ _ c.in_ok-write-4.ensures.writes (next_signed _ _ _ _ _ _ _
    w8 _ _ _ c.in_ok-write-5.ensures.writes (search sfits_of) (next_signed _ _ _ _ _ _ _ w8 _ _ _
    c.in_ok-write-6.ensures.writes (search sfits_of) (next_write _ _ _ _ _ _ _ c.in_ok-write-7.ensures.writes
    (stop_write _ _ _ _ _ _ _ c.from_residual-in_err-write-8.ensures.1 c.in_err-write-8.ensures.writes)))))))

pub returns-in_err-write_bytes : goal.returns-in_err-write_bytes
returns-in_err-write_bytes g c = next_write _ _ _ _ _ _ _ (rw c.number.ensures at c.in_ok-write.ensures.writes)
    (next_write _ _ _ _ _ _ _ c.in_ok-write-2.ensures.writes (next_write _ _ _ _ _ _ _ (rw c.number-2.ensures at
    c.in_ok-write-3.ensures.writes) (next_write _ _ _ _ _ _ _ c.in_ok-write-4.ensures.writes (next_signed _ _ _ _ _ _ _
    w8 _ _ _ c.in_ok-write-5.ensures.writes (search sfits_of) (next_signed _ _ _ _ _ _ _ w8 _ _ _
    c.in_ok-write-6.ensures.writes (search sfits_of) (next_write _ _ _ _ _ _ _ c.in_ok-write-7.ensures.writes
    (next_write _ _ _ _ _ _ _ c.in_ok-write-8.ensures.writes (stop_call _ _ _ _ _ _ _
    c.from_residual-in_err-write_bytes.ensures.1 c.in_err-write_bytes.ensures.writes))))))))

pub returns-in_err-write-9 : goal.returns-in_err-write-9
returns-in_err-write-9 g c = next_write _ _ _ _ _ _ _ (rw c.number.ensures at c.in_ok-write.ensures.writes) (next_write
    _ _ _ _ _ _ _ c.in_ok-write-2.ensures.writes (next_write _ _ _ _ _ _ _ (rw c.number-2.ensures at
    c.in_ok-write-3.ensures.writes) (next_write _ _ _ _ _ _ _ c.in_ok-write-4.ensures.writes (next_signed _ _ _ _ _ _ _
    w8 _ _ _ c.in_ok-write-5.ensures.writes (search sfits_of) (next_signed _ _ _ _ _ _ _ w8 _ _ _
    c.in_ok-write-6.ensures.writes (search sfits_of) (next_write _ _ _ _ _ _ _ c.in_ok-write-7.ensures.writes
    (next_write _ _ _ _ _ _ _ c.in_ok-write-8.ensures.writes (next_call _ _ _ _ _ _ _ c.in_ok-write_bytes.ensures.writes
    (all_stop _ _ _ _ _ _ _ (is_error _ _ c.from_residual-in_err-write-9.ensures.1) c.in_err-write-9.ensures)))))))))

pub returns-in_err-write-10 : goal.returns-in_err-write-10
returns-in_err-write-10 g c = next_write _ _ _ _ _ _ _ (rw c.number.ensures at c.in_ok-write.ensures.writes) (next_write
    _ _ _ _ _ _ _ c.in_ok-write-2.ensures.writes (next_write _ _ _ _ _ _ _ (rw c.number-2.ensures at
    c.in_ok-write-3.ensures.writes) (next_write _ _ _ _ _ _ _ c.in_ok-write-4.ensures.writes (next_signed _ _ _ _ _ _ _
    w8 _ _ _ c.in_ok-write-5.ensures.writes (search sfits_of) (next_signed _ _ _ _ _ _ _ w8 _ _ _
    c.in_ok-write-6.ensures.writes (search sfits_of) (next_write _ _ _ _ _ _ _ c.in_ok-write-7.ensures.writes
    (next_write _ _ _ _ _ _ _ c.in_ok-write-8.ensures.writes (next_call _ _ _ _ _ _ _ c.in_ok-write_bytes.ensures.writes
    (all_append _ _ _ _ _ _ _ c.in_ok-write-9.ensures (all_stop _ _ _ _ _ _ _ (is_error _ _
    c.from_residual-in_err-write-10.ensures.1) c.in_err-write-10.ensures))))))))))

pub returns-in_err-write-11 : goal.returns-in_err-write-11
returns-in_err-write-11 g c = next_write _ _ _ _ _ _ _ (rw c.number.ensures at c.in_ok-write.ensures.writes) (next_write
    _ _ _ _ _ _ _ c.in_ok-write-2.ensures.writes (next_write _ _ _ _ _ _ _ (rw c.number-2.ensures at
    c.in_ok-write-3.ensures.writes) (next_write _ _ _ _ _ _ _ c.in_ok-write-4.ensures.writes (next_signed _ _ _ _ _ _ _
    w8 _ _ _ c.in_ok-write-5.ensures.writes (search sfits_of) (next_signed _ _ _ _ _ _ _ w8 _ _ _
    c.in_ok-write-6.ensures.writes (search sfits_of) (next_write _ _ _ _ _ _ _ c.in_ok-write-7.ensures.writes
    (next_write _ _ _ _ _ _ _ c.in_ok-write-8.ensures.writes (next_call _ _ _ _ _ _ _ c.in_ok-write_bytes.ensures.writes
    (all_append _ _ _ _ _ _ _ c.in_ok-write-9.ensures (all_append _ _ _ _ _ _ _ c.in_ok-write-10.ensures (all_stop _ _ _
    _ _ _ _ (is_error _ _ c.from_residual-in_err-write-11.ensures.1) c.in_err-write-11.ensures)))))))))))

pub returns-in_err-write-12 : goal.returns-in_err-write-12
returns-in_err-write-12 g c = next_write _ _ _ _ _ _ _ (rw c.number.ensures at c.in_ok-write.ensures.writes) (next_write
    _ _ _ _ _ _ _ c.in_ok-write-2.ensures.writes (next_write _ _ _ _ _ _ _ (rw c.number-2.ensures at
    c.in_ok-write-3.ensures.writes) (next_write _ _ _ _ _ _ _ c.in_ok-write-4.ensures.writes (next_signed _ _ _ _ _ _ _
    w8 _ _ _ c.in_ok-write-5.ensures.writes (search sfits_of) (next_signed _ _ _ _ _ _ _ w8 _ _ _
    c.in_ok-write-6.ensures.writes (search sfits_of) (next_write _ _ _ _ _ _ _ c.in_ok-write-7.ensures.writes
    (next_write _ _ _ _ _ _ _ c.in_ok-write-8.ensures.writes (next_call _ _ _ _ _ _ _ c.in_ok-write_bytes.ensures.writes
    (all_append _ _ _ _ _ _ _ c.in_ok-write-9.ensures (all_append _ _ _ _ _ _ _ c.in_ok-write-10.ensures (all_append _ _
    _ _ _ _ _ c.in_ok-write-11.ensures (all_stop _ _ _ _ _ _ _ (is_error _ _ c.from_residual-in_err-write-12.ensures.1)
    c.in_err-write-12.ensures))))))))))))

pub returns : goal.returns
returns g c = next_write _ _ _ _ _ _ _ (rw c.number.ensures at c.in_ok-write.ensures.writes) (next_write _ _ _ _ _ _ _
    c.in_ok-write-2.ensures.writes (next_write _ _ _ _ _ _ _ (rw c.number-2.ensures at c.in_ok-write-3.ensures.writes)
    (next_write _ _ _ _ _ _ _ c.in_ok-write-4.ensures.writes (next_signed _ _ _ _ _ _ _ w8 _ _ _
    c.in_ok-write-5.ensures.writes (search sfits_of) (next_signed _ _ _ _ _ _ _ w8 _ _ _ c.in_ok-write-6.ensures.writes
    (search sfits_of) (next_write _ _ _ _ _ _ _ c.in_ok-write-7.ensures.writes (next_write _ _ _ _ _ _ _
    c.in_ok-write-8.ensures.writes (next_call _ _ _ _ _ _ _ c.in_ok-write_bytes.ensures.writes (all_append _ _ _ _ _ _ _
    c.in_ok-write-9.ensures (all_append _ _ _ _ _ _ _ c.in_ok-write-10.ensures (all_append _ _ _ _ _ _ _
    c.in_ok-write-11.ensures (all_append _ _ _ _ _ _ _ c.in_ok-write-12.ensures (all_none _ _)))))))))))))
