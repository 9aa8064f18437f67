-- Made by `./format --c` from ../network_messages/formats/udp_datagram.fields: edit that file and make this one anew.
use Rattle.bitstream_io.proofs.WriteParts.{all_none}
use Rattle.bitstream_io.proofs.WriteSteps.{next_call, next_write, stop_call, stop_write}
use Rattle.network_messages_c.proofs.udp_datagram.UdpDatagramGiven.write.Goals as goal

pub returns-in_err-write : goal.returns-in_err-write
returns-in_err-write g c = stop_write _ _ _ _ _ _ _ c.from_residual.ensures.1 c.in_err-write.ensures.writes

pub returns-in_err-write-2 : goal.returns-in_err-write-2
returns-in_err-write-2 g c = next_write _ _ _ _ _ _ _ c.in_ok-write.ensures.writes (stop_write _ _ _ _ _ _ _
    c.from_residual-in_err-write-2.ensures.1 c.in_err-write-2.ensures.writes)

pub returns-in_err-write-3 : goal.returns-in_err-write-3
returns-in_err-write-3 g c = next_write _ _ _ _ _ _ _ c.in_ok-write.ensures.writes (next_write _ _ _ _ _ _ _
    c.in_ok-write-2.ensures.writes (stop_write _ _ _ _ _ _ _ c.from_residual-in_err-write-3.ensures.1 (rw
    c.stored_size.ensures at c.in_err-write-3.ensures.writes)))

pub returns-in_err-write-4 : goal.returns-in_err-write-4
returns-in_err-write-4 g c = next_write _ _ _ _ _ _ _ c.in_ok-write.ensures.writes (next_write _ _ _ _ _ _ _
    c.in_ok-write-2.ensures.writes (next_write _ _ _ _ _ _ _ (rw c.stored_size.ensures at
    c.in_ok-write-3.ensures.writes) (stop_write _ _ _ _ _ _ _ c.from_residual-in_err-write-4.ensures.1 (rw
    c.sum16_udp.ensures at c.in_err-write-4.ensures.writes))))

pub returns-in_err-write_bytes : goal.returns-in_err-write_bytes
returns-in_err-write_bytes g c = next_write _ _ _ _ _ _ _ c.in_ok-write.ensures.writes (next_write _ _ _ _ _ _ _
    c.in_ok-write-2.ensures.writes (next_write _ _ _ _ _ _ _ (rw c.stored_size.ensures at
    c.in_ok-write-3.ensures.writes) (next_write _ _ _ _ _ _ _ (rw c.sum16_udp.ensures at c.in_ok-write-4.ensures.writes)
    (stop_call _ _ _ _ _ _ _ c.from_residual-in_err-write_bytes.ensures.1 c.in_err-write_bytes.ensures.writes))))

pub returns : goal.returns
returns g c = next_write _ _ _ _ _ _ _ c.in_ok-write.ensures.writes (next_write _ _ _ _ _ _ _
    c.in_ok-write-2.ensures.writes (next_write _ _ _ _ _ _ _ (rw c.stored_size.ensures at
    c.in_ok-write-3.ensures.writes) (next_write _ _ _ _ _ _ _ (rw c.sum16_udp.ensures at c.in_ok-write-4.ensures.writes)
    (next_call _ _ _ _ _ _ _ c.in_ok-write_bytes.ensures.writes (all_none _ _)))))
