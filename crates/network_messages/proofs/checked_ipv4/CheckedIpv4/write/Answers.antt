-- Made by `./format` from formats/checked_ipv4.fields: edit that file and make this one anew.
use Rattle.bitstream_io.proofs.WriteParts.{all_none}
use Rattle.bitstream_io.proofs.WriteSteps.{next_write, stop_write}
use Rattle.network_messages.proofs.checked_ipv4.CheckedIpv4.write.Goals as goal

pub returns-in_err-write : goal.returns-in_err-write
returns-in_err-write g c = stop_write _ _ _ _ _ _ _ c.from_residual.ensures.1 (rw c.number.ensures at
    c.in_err-write.ensures.writes)

pub returns-in_err-write-2 : goal.returns-in_err-write-2
returns-in_err-write-2 g c = next_write _ _ _ _ _ _ _ (rw c.number.ensures at c.in_ok-write.ensures.writes) (stop_write
    _ _ _ _ _ _ _ c.from_residual-in_err-write-2.ensures.1 c.in_err-write-2.ensures.writes)

pub returns-in_err-write-3 : goal.returns-in_err-write-3
returns-in_err-write-3 g c = next_write _ _ _ _ _ _ _ (rw c.number.ensures at c.in_ok-write.ensures.writes) (next_write
    _ _ _ _ _ _ _ c.in_ok-write-2.ensures.writes (stop_write _ _ _ _ _ _ _ c.from_residual-in_err-write-3.ensures.1
    c.in_err-write-3.ensures.writes))

pub returns-in_err-write-4 : goal.returns-in_err-write-4
returns-in_err-write-4 g c = next_write _ _ _ _ _ _ _ (rw c.number.ensures at c.in_ok-write.ensures.writes) (next_write
    _ _ _ _ _ _ _ c.in_ok-write-2.ensures.writes (next_write _ _ _ _ _ _ _ c.in_ok-write-3.ensures.writes (stop_write _
    _ _ _ _ _ _ c.from_residual-in_err-write-4.ensures.1 c.in_err-write-4.ensures.writes)))

pub returns-in_err-write-5 : goal.returns-in_err-write-5
returns-in_err-write-5 g c = next_write _ _ _ _ _ _ _ (rw c.number.ensures at c.in_ok-write.ensures.writes) (next_write
    _ _ _ _ _ _ _ c.in_ok-write-2.ensures.writes (next_write _ _ _ _ _ _ _ c.in_ok-write-3.ensures.writes (next_write _
    _ _ _ _ _ _ c.in_ok-write-4.ensures.writes (stop_write _ _ _ _ _ _ _ c.from_residual-in_err-write-5.ensures.1
    c.in_err-write-5.ensures.writes))))

pub returns-in_err-write-6 : goal.returns-in_err-write-6
returns-in_err-write-6 g c = next_write _ _ _ _ _ _ _ (rw c.number.ensures at c.in_ok-write.ensures.writes) (next_write
    _ _ _ _ _ _ _ c.in_ok-write-2.ensures.writes (next_write _ _ _ _ _ _ _ c.in_ok-write-3.ensures.writes (next_write _
    _ _ _ _ _ _ c.in_ok-write-4.ensures.writes (next_write _ _ _ _ _ _ _ c.in_ok-write-5.ensures.writes (stop_write _ _
    _ _ _ _ _ c.from_residual-in_err-write-6.ensures.1 c.in_err-write-6.ensures.writes)))))

pub returns-in_err-write-7 : goal.returns-in_err-write-7
returns-in_err-write-7 g c = next_write _ _ _ _ _ _ _ (rw c.number.ensures at c.in_ok-write.ensures.writes) (next_write
    _ _ _ _ _ _ _ c.in_ok-write-2.ensures.writes (next_write _ _ _ _ _ _ _ c.in_ok-write-3.ensures.writes (next_write _
    _ _ _ _ _ _ c.in_ok-write-4.ensures.writes (next_write _ _ _ _ _ _ _ c.in_ok-write-5.ensures.writes (next_write _ _
    _ _ _ _ _ c.in_ok-write-6.ensures.writes (stop_write _ _ _ _ _ _ _ c.from_residual-in_err-write-7.ensures.1
    c.in_err-write-7.ensures.writes))))))

pub returns-in_err-write-8 : goal.returns-in_err-write-8
returns-in_err-write-8 g c = next_write _ _ _ _ _ _ _ (rw c.number.ensures at c.in_ok-write.ensures.writes) (next_write
    _ _ _ _ _ _ _ c.in_ok-write-2.ensures.writes (next_write _ _ _ _ _ _ _ c.in_ok-write-3.ensures.writes (next_write _
    _ _ _ _ _ _ c.in_ok-write-4.ensures.writes (next_write _ _ _ _ _ _ _ c.in_ok-write-5.ensures.writes (next_write _ _
    _ _ _ _ _ c.in_ok-write-6.ensures.writes (next_write _ _ _ _ _ _ _ c.in_ok-write-7.ensures.writes (stop_write _ _ _
    _ _ _ _ c.from_residual-in_err-write-8.ensures.1 (rw c.number-2.ensures at (rw c.sum16_of.ensures at
    c.in_err-write-8.ensures.writes)))))))))

pub returns-in_err-write-9 : goal.returns-in_err-write-9
returns-in_err-write-9 g c = next_write _ _ _ _ _ _ _ (rw c.number.ensures at c.in_ok-write.ensures.writes) (next_write
    _ _ _ _ _ _ _ c.in_ok-write-2.ensures.writes (next_write _ _ _ _ _ _ _ c.in_ok-write-3.ensures.writes (next_write _
    _ _ _ _ _ _ c.in_ok-write-4.ensures.writes (next_write _ _ _ _ _ _ _ c.in_ok-write-5.ensures.writes (next_write _ _
    _ _ _ _ _ c.in_ok-write-6.ensures.writes (next_write _ _ _ _ _ _ _ c.in_ok-write-7.ensures.writes (next_write _ _ _
    _ _ _ _ (rw c.number-2.ensures at (rw c.sum16_of.ensures at c.in_ok-write-8.ensures.writes)) (stop_write _ _ _ _ _ _
    _ c.from_residual-in_err-write-9.ensures.1 c.in_err-write-9.ensures.writes))))))))

pub returns-in_err-write-10 : goal.returns-in_err-write-10
returns-in_err-write-10 g c = next_write _ _ _ _ _ _ _ (rw c.number.ensures at c.in_ok-write.ensures.writes) (next_write
    _ _ _ _ _ _ _ c.in_ok-write-2.ensures.writes (next_write _ _ _ _ _ _ _ c.in_ok-write-3.ensures.writes (next_write _
    _ _ _ _ _ _ c.in_ok-write-4.ensures.writes (next_write _ _ _ _ _ _ _ c.in_ok-write-5.ensures.writes (next_write _ _
    _ _ _ _ _ c.in_ok-write-6.ensures.writes (next_write _ _ _ _ _ _ _ c.in_ok-write-7.ensures.writes (next_write _ _ _
    _ _ _ _ (rw c.number-2.ensures at (rw c.sum16_of.ensures at c.in_ok-write-8.ensures.writes)) (next_write _ _ _ _ _ _
    _ c.in_ok-write-9.ensures.writes (stop_write _ _ _ _ _ _ _ c.from_residual-in_err-write-10.ensures.1
    c.in_err-write-10.ensures.writes)))))))))

pub returns : goal.returns
returns g c = next_write _ _ _ _ _ _ _ (rw c.number.ensures at c.in_ok-write.ensures.writes) (next_write _ _ _ _ _ _ _
    c.in_ok-write-2.ensures.writes (next_write _ _ _ _ _ _ _ c.in_ok-write-3.ensures.writes (next_write _ _ _ _ _ _ _
    c.in_ok-write-4.ensures.writes (next_write _ _ _ _ _ _ _ c.in_ok-write-5.ensures.writes (next_write _ _ _ _ _ _ _
    c.in_ok-write-6.ensures.writes (next_write _ _ _ _ _ _ _ c.in_ok-write-7.ensures.writes (next_write _ _ _ _ _ _ _
    (rw c.number-2.ensures at (rw c.sum16_of.ensures at c.in_ok-write-8.ensures.writes)) (next_write _ _ _ _ _ _ _
    c.in_ok-write-9.ensures.writes (next_write _ _ _ _ _ _ _ c.in_ok-write-10.ensures.writes (all_none _ _))))))))))
