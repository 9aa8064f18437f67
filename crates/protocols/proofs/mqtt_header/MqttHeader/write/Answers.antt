-- Made by `./format` from formats/mqtt_header.fields: edit that file and make this one anew.
use Rattle.bitstream_io.proofs.WriteParts.{all_none}
use Rattle.bitstream_io.proofs.WriteSteps.{next_call, next_write, stop_call, stop_write}
use Rattle.protocols.proofs.mqtt_header.MqttHeader.write.Goals as goal

pub returns-in_err-write : goal.returns-in_err-write
returns-in_err-write g c = stop_write _ _ _ _ _ _ _ c.from_residual.ensures.1 (rw c.number.ensures at
    c.in_err-write.ensures.writes)

pub returns-in_err-write_bit : goal.returns-in_err-write_bit
returns-in_err-write_bit g c = next_write _ _ _ _ _ _ _ (rw c.number.ensures at c.in_ok-write.ensures.writes) (stop_call
    _ _ _ _ _ _ _ c.from_residual-in_err-write_bit.ensures.1 c.in_err-write_bit.ensures.writes)

pub returns-in_err-write-2 : goal.returns-in_err-write-2
returns-in_err-write-2 g c = next_write _ _ _ _ _ _ _ (rw c.number.ensures at c.in_ok-write.ensures.writes) (next_call _
    _ _ _ _ _ _ c.in_ok-write_bit.ensures.writes (stop_write _ _ _ _ _ _ _ c.from_residual-in_err-write-2.ensures.1
    c.in_err-write-2.ensures.writes))

pub returns-in_err-write_bit-2 : goal.returns-in_err-write_bit-2
returns-in_err-write_bit-2 g c = next_write _ _ _ _ _ _ _ (rw c.number.ensures at c.in_ok-write.ensures.writes)
    (next_call _ _ _ _ _ _ _ c.in_ok-write_bit.ensures.writes (next_write _ _ _ _ _ _ _ c.in_ok-write-2.ensures.writes
    (stop_call _ _ _ _ _ _ _ c.from_residual-in_err-write_bit-2.ensures.1 c.in_err-write_bit-2.ensures.writes)))

pub returns-in_err-write_vbr : goal.returns-in_err-write_vbr
returns-in_err-write_vbr g c = next_write _ _ _ _ _ _ _ (rw c.number.ensures at c.in_ok-write.ensures.writes) (next_call
    _ _ _ _ _ _ _ c.in_ok-write_bit.ensures.writes (next_write _ _ _ _ _ _ _ c.in_ok-write-2.ensures.writes (next_call _
    _ _ _ _ _ _ c.in_ok-write_bit-2.ensures.writes (stop_write _ _ _ _ _ _ _ c.from_residual-in_err-write_vbr.ensures.1
    c.in_err-write_vbr.ensures.writes))))

pub returns : goal.returns
returns g c = next_write _ _ _ _ _ _ _ (rw c.number.ensures at c.in_ok-write.ensures.writes) (next_call _ _ _ _ _ _ _
    c.in_ok-write_bit.ensures.writes (next_write _ _ _ _ _ _ _ c.in_ok-write-2.ensures.writes (next_call _ _ _ _ _ _ _
    c.in_ok-write_bit-2.ensures.writes (next_write _ _ _ _ _ _ _ c.in_ok-write_vbr.ensures.writes (all_none _ _)))))
