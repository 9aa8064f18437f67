-- Made by `./format --c` from ../network_messages/formats/icmp_message.fields: edit that file and make this one anew.
use Rattle.network_messages_c.proofs.IcmpMessageLemmas.{read_done, stopped}
use Rattle.std.proofs.Common.{rules}
use Rattle.std.proofs.Common.{refl}
use Rattle.bitstream_io.proofs.CallerLemmas.{next_own_read as next, exit_own_read as exit}
use Rattle.bitstream_io.proofs.OwnSteps.{then_part, end_part, own_end}
use Rattle.network_messages_c.proofs.icmp_message.read.Goals as goal

pub returns-in_err-kind : goal.returns-in_err-kind
returns-in_err-kind g c = stopped _ c.from_residual.ensures.1 (λ s residual. end_part _ c.in_err-kind.ensures refl refl
    residual)

pub returns-in_err-code : goal.returns-in_err-code
returns-in_err-code g c = stopped _ c.from_residual-in_err-code.ensures.1 (λ s residual. then_part _
    c.in_ok-kind.ensures refl refl (exit _ residual c.in_err-code.ensures.reads))

pub returns-in_err-stored_sum16 : goal.returns-in_err-stored_sum16
returns-in_err-stored_sum16 g c = stopped _ c.from_residual-in_err-stored_sum16.ensures.1 (λ s residual. then_part _
    c.in_ok-kind.ensures refl refl (next _ c.in_ok-code.ensures.reads (exit _ residual
    c.in_err-stored_sum16.ensures.reads)))

pub returns-in_err-identifier : goal.returns-in_err-identifier
returns-in_err-identifier g c = stopped _ c.from_residual-in_err-identifier.ensures.1 (λ s residual. then_part _
    c.in_ok-kind.ensures refl refl (next _ c.in_ok-code.ensures.reads (next _ c.in_ok-stored_sum16.ensures.reads (exit _
    residual c.in_err-identifier.ensures.reads))))

pub returns-in_err-sequence : goal.returns-in_err-sequence
returns-in_err-sequence g c = stopped _ c.from_residual-in_err-sequence.ensures.1 (λ s residual. then_part _
    c.in_ok-kind.ensures refl refl (next _ c.in_ok-code.ensures.reads (next _ c.in_ok-stored_sum16.ensures.reads (next _
    c.in_ok-identifier.ensures.reads (exit _ residual c.in_err-sequence.ensures.reads)))))

pub returns-in_err-read_data : goal.returns-in_err-read_data
returns-in_err-read_data g c = stopped _ c.from_residual-in_err-read_data.ensures.1 (λ s residual. then_part _
    c.in_ok-kind.ensures refl refl (next _ c.in_ok-code.ensures.reads (next _ c.in_ok-stored_sum16.ensures.reads (next _
    c.in_ok-identifier.ensures.reads (next _ c.in_ok-sequence.ensures.reads (exit _ residual
    c.in_err-read_data.ensures.reads))))))

pub returns : goal.returns
returns g c = read_done (then_part _ c.in_ok-kind.ensures refl refl (next _ c.in_ok-code.ensures.reads (next _
    c.in_ok-stored_sum16.ensures.reads (next _ c.in_ok-identifier.ensures.reads (next _ c.in_ok-sequence.ensures.reads
    (next _ c.in_ok-read_data.ensures.reads (own_end _ _))))))) (search rules) c.in_ok-read_data.ensures.keeps
