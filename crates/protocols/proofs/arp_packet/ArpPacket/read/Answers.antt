-- Made by `./format` from formats/arp_packet.fields: edit that file and make this one anew.
use Rattle.std.proofs.Common.{refl}
use Rattle.bitstream_io.proofs.CallerLemmas.{next_own_read as next, next_own_const as next_const, exit_own_read as exit, exit_own_const as exit_const}
use Rattle.bitstream_io.proofs.OwnSteps.{own_end}
use Rattle.protocols.proofs.arp_packet.ArpPacket.read.Goals as goal

pub returns-in_err-read_const : goal.returns-in_err-read_const
returns-in_err-read_const g c = exit_const _ _ c.from_residual.ensures.1 c.in_err-read_const.ensures.reads refl

pub returns-in_err-read_const-2 : goal.returns-in_err-read_const-2
returns-in_err-read_const-2 g c = next_const _ _ c.in_ok-read_const.ensures.reads (exit_const _ _
    c.from_residual-in_err-read_const-2.ensures.1 c.in_err-read_const-2.ensures.reads refl)

pub returns-in_err-read_const-3 : goal.returns-in_err-read_const-3
returns-in_err-read_const-3 g c = next_const _ _ c.in_ok-read_const.ensures.reads (next_const _ _
    c.in_ok-read_const-2.ensures.reads (exit_const _ _ c.from_residual-in_err-read_const-3.ensures.1
    c.in_err-read_const-3.ensures.reads refl))

pub returns-in_err-read_const-4 : goal.returns-in_err-read_const-4
returns-in_err-read_const-4 g c = next_const _ _ c.in_ok-read_const.ensures.reads (next_const _ _
    c.in_ok-read_const-2.ensures.reads (next_const _ _ c.in_ok-read_const-3.ensures.reads (exit_const _ _
    c.from_residual-in_err-read_const-4.ensures.1 c.in_err-read_const-4.ensures.reads refl)))

pub returns-in_err-operation : goal.returns-in_err-operation
returns-in_err-operation g c = next_const _ _ c.in_ok-read_const.ensures.reads (next_const _ _
    c.in_ok-read_const-2.ensures.reads (next_const _ _ c.in_ok-read_const-3.ensures.reads (next_const _ _
    c.in_ok-read_const-4.ensures.reads (exit _ c.from_residual-in_err-operation.ensures.1 c.in_err-operation.ensures))))

pub returns-in_err-sender_hardware : goal.returns-in_err-sender_hardware
returns-in_err-sender_hardware g c = next_const _ _ c.in_ok-read_const.ensures.reads (next_const _ _
    c.in_ok-read_const-2.ensures.reads (next_const _ _ c.in_ok-read_const-3.ensures.reads (next_const _ _
    c.in_ok-read_const-4.ensures.reads (next _ c.in_ok-operation.ensures (exit _
    c.from_residual-in_err-sender_hardware.ensures.1 c.in_err-sender_hardware.ensures.reads)))))

pub returns-in_err-sender_protocol : goal.returns-in_err-sender_protocol
returns-in_err-sender_protocol g c = next_const _ _ c.in_ok-read_const.ensures.reads (next_const _ _
    c.in_ok-read_const-2.ensures.reads (next_const _ _ c.in_ok-read_const-3.ensures.reads (next_const _ _
    c.in_ok-read_const-4.ensures.reads (next _ c.in_ok-operation.ensures (next _ c.in_ok-sender_hardware.ensures.reads
    (exit _ c.from_residual-in_err-sender_protocol.ensures.1 c.in_err-sender_protocol.ensures.reads))))))

pub returns-in_err-target_hardware : goal.returns-in_err-target_hardware
returns-in_err-target_hardware g c = next_const _ _ c.in_ok-read_const.ensures.reads (next_const _ _
    c.in_ok-read_const-2.ensures.reads (next_const _ _ c.in_ok-read_const-3.ensures.reads (next_const _ _
    c.in_ok-read_const-4.ensures.reads (next _ c.in_ok-operation.ensures (next _ c.in_ok-sender_hardware.ensures.reads
    (next _ c.in_ok-sender_protocol.ensures.reads (exit _ c.from_residual-in_err-target_hardware.ensures.1
    c.in_err-target_hardware.ensures.reads)))))))

pub returns-in_err-target_protocol : goal.returns-in_err-target_protocol
returns-in_err-target_protocol g c = next_const _ _ c.in_ok-read_const.ensures.reads (next_const _ _
    c.in_ok-read_const-2.ensures.reads (next_const _ _ c.in_ok-read_const-3.ensures.reads (next_const _ _
    c.in_ok-read_const-4.ensures.reads (next _ c.in_ok-operation.ensures (next _ c.in_ok-sender_hardware.ensures.reads
    (next _ c.in_ok-sender_protocol.ensures.reads (next _ c.in_ok-target_hardware.ensures.reads (exit _
    c.from_residual-in_err-target_protocol.ensures.1 c.in_err-target_protocol.ensures.reads))))))))

pub returns : goal.returns
returns g c = next_const _ _ c.in_ok-read_const.ensures.reads (next_const _ _ c.in_ok-read_const-2.ensures.reads
    (next_const _ _ c.in_ok-read_const-3.ensures.reads (next_const _ _ c.in_ok-read_const-4.ensures.reads (next _
    c.in_ok-operation.ensures (next _ c.in_ok-sender_hardware.ensures.reads (next _
    c.in_ok-sender_protocol.ensures.reads (next _ c.in_ok-target_hardware.ensures.reads (next _
    c.in_ok-target_protocol.ensures.reads (own_end _ _)))))))))
