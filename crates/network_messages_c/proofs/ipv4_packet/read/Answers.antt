-- Made by `./format --c` from ../network_messages/formats/ipv4_packet.fields: edit that file and make this one anew.
use Rattle.network_messages_c.proofs.Ipv4PacketLemmas.{read_done, stopped}
use Rattle.std.proofs.Common.{rules}
use Rattle.std.proofs.Common.{refl}
use Rattle.bitstream_io.proofs.CallerLemmas.{next_own_read as next, next_own_const as next_const, exit_own_read as exit, exit_own_const as exit_const}
use Rattle.bitstream_io.proofs.OwnSteps.{then_part, end_part, own_end}
use Rattle.network_messages_c.proofs.ipv4_packet.read.Goals as goal

pub returns-in_err-read_const : goal.returns-in_err-read_const
returns-in_err-read_const g c = stopped _ c.from_residual.ensures.1 (λ s residual. exit_const _ _ residual
    c.in_err-read_const.ensures.reads refl)

pub returns-in_err-options_bytes : goal.returns-in_err-options_bytes
returns-in_err-options_bytes g c = stopped _ c.from_residual-in_err-options_bytes.ensures.1 (λ s residual. next_const _
    _ c.in_ok-read_const.ensures.reads (exit _ residual c.in_err-options_bytes.ensures.reads))

pub returns-in_err-service : goal.returns-in_err-service
returns-in_err-service g c = stopped _ c.from_residual-in_err-service.ensures.1 (λ s residual. next_const _ _
    c.in_ok-read_const.ensures.reads (next _ c.in_ok-options_bytes.ensures.reads (exit _ residual
    c.in_err-service.ensures.reads)))

pub returns-in_err-length_ : goal.returns-in_err-length_
returns-in_err-length_ g c = stopped _ c.from_residual-in_err-length_.ensures.1 (λ s residual. next_const _ _
    c.in_ok-read_const.ensures.reads (next _ c.in_ok-options_bytes.ensures.reads (next _ c.in_ok-service.ensures.reads
    (exit _ residual c.in_err-length_.ensures.reads))))

pub returns-in_err-id : goal.returns-in_err-id
returns-in_err-id g c = stopped _ c.from_residual-in_err-id.ensures.1 (λ s residual. next_const _ _
    c.in_ok-read_const.ensures.reads (next _ c.in_ok-options_bytes.ensures.reads (next _ c.in_ok-service.ensures.reads
    (next _ c.in_ok-length_.ensures.reads (exit _ residual c.in_err-id.ensures.reads)))))

pub returns-in_err-read_const-2 : goal.returns-in_err-read_const-2
returns-in_err-read_const-2 g c = stopped _ c.from_residual-in_err-read_const-2.ensures.1 (λ s residual. next_const _ _
    c.in_ok-read_const.ensures.reads (next _ c.in_ok-options_bytes.ensures.reads (next _ c.in_ok-service.ensures.reads
    (next _ c.in_ok-length_.ensures.reads (next _ c.in_ok-id.ensures.reads (exit_const _ _ residual
    c.in_err-read_const-2.ensures.reads refl))))))

pub returns-in_err-keep_whole : goal.returns-in_err-keep_whole
returns-in_err-keep_whole g c = stopped _ c.from_residual-in_err-keep_whole.ensures.1 (λ s residual. next_const _ _
    c.in_ok-read_const.ensures.reads (next _ c.in_ok-options_bytes.ensures.reads (next _ c.in_ok-service.ensures.reads
    (next _ c.in_ok-length_.ensures.reads (next _ c.in_ok-id.ensures.reads (next_const _ _
    c.in_ok-read_const-2.ensures.reads (exit _ residual c.in_err-keep_whole.ensures.reads)))))))

pub returns-in_err-more_ : goal.returns-in_err-more_
returns-in_err-more_ g c = stopped _ c.from_residual-in_err-more_.ensures.1 (λ s residual. next_const _ _
    c.in_ok-read_const.ensures.reads (next _ c.in_ok-options_bytes.ensures.reads (next _ c.in_ok-service.ensures.reads
    (next _ c.in_ok-length_.ensures.reads (next _ c.in_ok-id.ensures.reads (next_const _ _
    c.in_ok-read_const-2.ensures.reads (next _ c.in_ok-keep_whole.ensures.reads (exit _ residual
    c.in_err-more_.ensures.reads))))))))

pub returns-in_err-offset : goal.returns-in_err-offset
returns-in_err-offset g c = stopped _ c.from_residual-in_err-offset.ensures.1 (λ s residual. next_const _ _
    c.in_ok-read_const.ensures.reads (next _ c.in_ok-options_bytes.ensures.reads (next _ c.in_ok-service.ensures.reads
    (next _ c.in_ok-length_.ensures.reads (next _ c.in_ok-id.ensures.reads (next_const _ _
    c.in_ok-read_const-2.ensures.reads (next _ c.in_ok-keep_whole.ensures.reads (next _ c.in_ok-more_.ensures.reads (exit
    _ residual c.in_err-offset.ensures.reads)))))))))

pub returns-in_err-ttl : goal.returns-in_err-ttl
returns-in_err-ttl g c = stopped _ c.from_residual-in_err-ttl.ensures.1 (λ s residual. next_const _ _
    c.in_ok-read_const.ensures.reads (next _ c.in_ok-options_bytes.ensures.reads (next _ c.in_ok-service.ensures.reads
    (next _ c.in_ok-length_.ensures.reads (next _ c.in_ok-id.ensures.reads (next_const _ _
    c.in_ok-read_const-2.ensures.reads (next _ c.in_ok-keep_whole.ensures.reads (next _ c.in_ok-more_.ensures.reads (next
    _ c.in_ok-offset.ensures.reads (exit _ residual c.in_err-ttl.ensures.reads))))))))))

pub returns-in_err-protocol : goal.returns-in_err-protocol
returns-in_err-protocol g c = stopped _ c.from_residual-in_err-protocol.ensures.1 (λ s residual. next_const _ _
    c.in_ok-read_const.ensures.reads (next _ c.in_ok-options_bytes.ensures.reads (next _ c.in_ok-service.ensures.reads
    (next _ c.in_ok-length_.ensures.reads (next _ c.in_ok-id.ensures.reads (next_const _ _
    c.in_ok-read_const-2.ensures.reads (next _ c.in_ok-keep_whole.ensures.reads (next _ c.in_ok-more_.ensures.reads (next
    _ c.in_ok-offset.ensures.reads (next _ c.in_ok-ttl.ensures.reads (exit _ residual
    c.in_err-protocol.ensures.reads)))))))))))

pub returns-in_err-stored_sum16 : goal.returns-in_err-stored_sum16
returns-in_err-stored_sum16 g c = stopped _ c.from_residual-in_err-stored_sum16.ensures.1 (λ s residual. next_const _ _
    c.in_ok-read_const.ensures.reads (next _ c.in_ok-options_bytes.ensures.reads (next _ c.in_ok-service.ensures.reads
    (next _ c.in_ok-length_.ensures.reads (next _ c.in_ok-id.ensures.reads (next_const _ _
    c.in_ok-read_const-2.ensures.reads (next _ c.in_ok-keep_whole.ensures.reads (next _ c.in_ok-more_.ensures.reads (next
    _ c.in_ok-offset.ensures.reads (next _ c.in_ok-ttl.ensures.reads (next _ c.in_ok-protocol.ensures.reads (exit _
    residual c.in_err-stored_sum16.ensures.reads))))))))))))

pub returns-in_err-source : goal.returns-in_err-source
returns-in_err-source g c = stopped _ c.from_residual-in_err-source.ensures.1 (λ s residual. next_const _ _
    c.in_ok-read_const.ensures.reads (next _ c.in_ok-options_bytes.ensures.reads (next _ c.in_ok-service.ensures.reads
    (next _ c.in_ok-length_.ensures.reads (next _ c.in_ok-id.ensures.reads (next_const _ _
    c.in_ok-read_const-2.ensures.reads (next _ c.in_ok-keep_whole.ensures.reads (next _ c.in_ok-more_.ensures.reads (next
    _ c.in_ok-offset.ensures.reads (next _ c.in_ok-ttl.ensures.reads (next _ c.in_ok-protocol.ensures.reads (next _
    c.in_ok-stored_sum16.ensures.reads (exit _ residual c.in_err-source.ensures.reads)))))))))))))

pub returns-in_err-target : goal.returns-in_err-target
returns-in_err-target g c = stopped _ c.from_residual-in_err-target.ensures.1 (λ s residual. next_const _ _
    c.in_ok-read_const.ensures.reads (next _ c.in_ok-options_bytes.ensures.reads (next _ c.in_ok-service.ensures.reads
    (next _ c.in_ok-length_.ensures.reads (next _ c.in_ok-id.ensures.reads (next_const _ _
    c.in_ok-read_const-2.ensures.reads (next _ c.in_ok-keep_whole.ensures.reads (next _ c.in_ok-more_.ensures.reads (next
    _ c.in_ok-offset.ensures.reads (next _ c.in_ok-ttl.ensures.reads (next _ c.in_ok-protocol.ensures.reads (next _
    c.in_ok-stored_sum16.ensures.reads (next _ c.in_ok-source.ensures.reads (exit _ residual
    c.in_err-target.ensures.reads))))))))))))))

pub returns-in_err-options_count : goal.returns-in_err-options_count
returns-in_err-options_count g c = stopped _ c.from_residual-in_err-options_count.ensures.1 (λ s residual. next_const _
    _ c.in_ok-read_const.ensures.reads (next _ c.in_ok-options_bytes.ensures.reads (next _ c.in_ok-service.ensures.reads
    (next _ c.in_ok-length_.ensures.reads (next _ c.in_ok-id.ensures.reads (next_const _ _
    c.in_ok-read_const-2.ensures.reads (next _ c.in_ok-keep_whole.ensures.reads (next _ c.in_ok-more_.ensures.reads (next
    _ c.in_ok-offset.ensures.reads (next _ c.in_ok-ttl.ensures.reads (next _ c.in_ok-protocol.ensures.reads (next _
    c.in_ok-stored_sum16.ensures.reads (next _ c.in_ok-source.ensures.reads (next _ c.in_ok-target.ensures.reads
    (end_part _ c.in_err-options_count.ensures.reads refl refl residual)))))))))))))))

pub returns : goal.returns
returns g c = read_done (next_const _ _ c.in_ok-read_const.ensures.reads (next _ c.in_ok-options_bytes.ensures.reads
    (next _ c.in_ok-service.ensures.reads (next _ c.in_ok-length_.ensures.reads (next _ c.in_ok-id.ensures.reads
    (next_const _ _ c.in_ok-read_const-2.ensures.reads (next _ c.in_ok-keep_whole.ensures.reads (next _
    c.in_ok-more_.ensures.reads (next _ c.in_ok-offset.ensures.reads (next _ c.in_ok-ttl.ensures.reads (next _
    c.in_ok-protocol.ensures.reads (next _ c.in_ok-stored_sum16.ensures.reads (next _ c.in_ok-source.ensures.reads (next
    _ c.in_ok-target.ensures.reads (then_part _ c.in_ok-options_count.ensures.reads refl refl (own_end _
    _)))))))))))))))) (search rules) c.in_ok-options_count.ensures.keeps
