-- Made by `./format --c` from ../protocols/formats/coap_header.fields: edit that file and make this one anew.
use Rattle.protocols_c.proofs.CoapHeaderLemmas.{read_done, stopped}
use Rattle.std.proofs.Common.{rules}
use Rattle.std.proofs.Common.{refl}
use Rattle.bitstream_io.proofs.CallerLemmas.{next_own_read as next, next_own_const as next_const, exit_own_read as exit, exit_own_const as exit_const}
use Rattle.bitstream_io.proofs.OwnSteps.{own_end}
use Rattle.protocols_c.proofs.coap_header.read.Goals as goal

pub returns-in_err-read_const : goal.returns-in_err-read_const
returns-in_err-read_const g c = stopped _ c.from_residual.ensures.1 (λ s residual. exit_const _ _ residual
    c.in_err-read_const.ensures.reads refl)

pub returns-in_err-kind : goal.returns-in_err-kind
returns-in_err-kind g c = stopped _ c.from_residual-in_err-kind.ensures.1 (λ s residual. next_const _ _
    c.in_ok-read_const.ensures.reads (exit _ residual c.in_err-kind.ensures))

pub returns-in_err-token_count : goal.returns-in_err-token_count
returns-in_err-token_count g c = stopped _ c.from_residual-in_err-token_count.ensures.1 (λ s residual. next_const _ _
    c.in_ok-read_const.ensures.reads (next _ c.in_ok-kind.ensures (exit _ residual c.in_err-token_count.ensures.reads)))

pub returns-in_err-class : goal.returns-in_err-class
returns-in_err-class g c = stopped _ c.from_residual-in_err-class.ensures.1 (λ s residual. next_const _ _
    c.in_ok-read_const.ensures.reads (next _ c.in_ok-kind.ensures (next _ c.in_ok-token_count.ensures.reads (exit _
    residual c.in_err-class.ensures.reads))))

pub returns-in_err-detail : goal.returns-in_err-detail
returns-in_err-detail g c = stopped _ c.from_residual-in_err-detail.ensures.1 (λ s residual. next_const _ _
    c.in_ok-read_const.ensures.reads (next _ c.in_ok-kind.ensures (next _ c.in_ok-token_count.ensures.reads (next _
    c.in_ok-class.ensures.reads (exit _ residual c.in_err-detail.ensures.reads)))))

pub returns-in_err-id : goal.returns-in_err-id
returns-in_err-id g c = stopped _ c.from_residual-in_err-id.ensures.1 (λ s residual. next_const _ _
    c.in_ok-read_const.ensures.reads (next _ c.in_ok-kind.ensures (next _ c.in_ok-token_count.ensures.reads (next _
    c.in_ok-class.ensures.reads (next _ c.in_ok-detail.ensures.reads (exit _ residual c.in_err-id.ensures.reads))))))

pub returns-in_err-read_token : goal.returns-in_err-read_token
returns-in_err-read_token g c = stopped _ c.from_residual-in_err-read_token.ensures.1 (λ s residual. next_const _ _
    c.in_ok-read_const.ensures.reads (next _ c.in_ok-kind.ensures (next _ c.in_ok-token_count.ensures.reads (next _
    c.in_ok-class.ensures.reads (next _ c.in_ok-detail.ensures.reads (next _ c.in_ok-id.ensures.reads (exit _ residual
    c.in_err-read_token.ensures.reads)))))))

pub returns : goal.returns
returns g c = read_done (next_const _ _ c.in_ok-read_const.ensures.reads (next _ c.in_ok-kind.ensures (next _
    c.in_ok-token_count.ensures.reads (next _ c.in_ok-class.ensures.reads (next _ c.in_ok-detail.ensures.reads (next _
    c.in_ok-id.ensures.reads (next _ c.in_ok-read_token.ensures.reads (own_end _ _)))))))) (search rules)
    c.in_ok-read_token.ensures.keeps
