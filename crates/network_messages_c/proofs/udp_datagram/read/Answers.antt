-- Made by `./format --c` from ../network_messages/formats/udp_datagram.fields: edit that file and make this one anew.
use Rattle.network_messages_c.proofs.UdpDatagramLemmas.{read_done, stopped}
use Rattle.std.proofs.Common.{rules}
use Rattle.std.proofs.Common.{refl}
use Rattle.bitstream_io.proofs.CallerLemmas.{next_own_read as next, exit_own_read as exit}
use Rattle.bitstream_io.proofs.OwnSteps.{then_part, end_part, own_end}
use Rattle.network_messages_c.proofs.udp_datagram.read.Goals as goal

pub returns-in_err-source : goal.returns-in_err-source
returns-in_err-source g c = stopped _ c.from_residual.ensures.1 (λ s residual. exit _ residual
    c.in_err-source.ensures.reads)

pub returns-in_err-target : goal.returns-in_err-target
returns-in_err-target g c = stopped _ c.from_residual-in_err-target.ensures.1 (λ s residual. next _
    c.in_ok-source.ensures.reads (exit _ residual c.in_err-target.ensures.reads))

pub returns-in_err-data_bytes : goal.returns-in_err-data_bytes
returns-in_err-data_bytes g c = stopped _ c.from_residual-in_err-data_bytes.ensures.1 (λ s residual. next _
    c.in_ok-source.ensures.reads (next _ c.in_ok-target.ensures.reads (exit _ residual
    c.in_err-data_bytes.ensures.reads)))

pub returns-in_err-stored_sum16_udp : goal.returns-in_err-stored_sum16_udp
returns-in_err-stored_sum16_udp g c = stopped _ c.from_residual-in_err-stored_sum16_udp.ensures.1 (λ s residual. next _
    c.in_ok-source.ensures.reads (next _ c.in_ok-target.ensures.reads (next _ c.in_ok-data_bytes.ensures.reads (exit _
    residual c.in_err-stored_sum16_udp.ensures.reads))))

pub returns-in_err-data_count : goal.returns-in_err-data_count
returns-in_err-data_count g c = stopped _ c.from_residual-in_err-data_count.ensures.1 (λ s residual. next _
    c.in_ok-source.ensures.reads (next _ c.in_ok-target.ensures.reads (next _ c.in_ok-data_bytes.ensures.reads (next _
    c.in_ok-stored_sum16_udp.ensures.reads (end_part _ c.in_err-data_count.ensures.reads refl refl residual)))))

pub returns : goal.returns
returns g c = read_done (next _ c.in_ok-source.ensures.reads (next _ c.in_ok-target.ensures.reads (next _
    c.in_ok-data_bytes.ensures.reads (next _ c.in_ok-stored_sum16_udp.ensures.reads (then_part _
    c.in_ok-data_count.ensures.reads refl refl (own_end _ _)))))) (search rules) c.in_ok-data_count.ensures.keeps
