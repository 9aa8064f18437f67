-- Made by `./format --c` from ../protocols/formats/socks_login.fields: edit that file and make this one anew.
use Rattle.protocols_c.proofs.SocksLoginLemmas.{read_done, stopped}
use Rattle.std.proofs.Common.{rules}
use Rattle.std.proofs.Common.{refl}
use Rattle.bitstream_io.proofs.CallerLemmas.{next_own_read as next, next_own_const as next_const, exit_own_read as exit, exit_own_const as exit_const}
use Rattle.bitstream_io.proofs.OwnSteps.{own_end}
use Rattle.protocols_c.proofs.socks_login.read.Goals as goal

pub returns-in_err-read_const : goal.returns-in_err-read_const
returns-in_err-read_const g c = stopped _ c.from_residual.ensures.1 (λ s residual. exit_const _ _ residual
    c.in_err-read_const.ensures.reads refl)

pub returns-in_err-name_bytes : goal.returns-in_err-name_bytes
returns-in_err-name_bytes g c = stopped _ c.from_residual-in_err-name_bytes.ensures.1 (λ s residual. next_const _ _
    c.in_ok-read_const.ensures.reads (exit _ residual c.in_err-name_bytes.ensures.reads))

pub returns-in_err-read_name : goal.returns-in_err-read_name
returns-in_err-read_name g c = stopped _ c.from_residual-in_err-read_name.ensures.1 (λ s residual. next_const _ _
    c.in_ok-read_const.ensures.reads (next _ c.in_ok-name_bytes.ensures.reads (exit _ residual
    c.in_err-read_name.ensures.reads)))

pub returns-in_err-password_bytes : goal.returns-in_err-password_bytes
returns-in_err-password_bytes g c = stopped _ c.from_residual-in_err-password_bytes.ensures.1 (λ s residual. next_const
    _ _ c.in_ok-read_const.ensures.reads (next _ c.in_ok-name_bytes.ensures.reads (next _
    c.in_ok-read_name.ensures.reads (exit _ residual c.in_err-password_bytes.ensures.reads))))

pub returns-in_err-read_password : goal.returns-in_err-read_password
returns-in_err-read_password g c = stopped _ c.from_residual-in_err-read_password.ensures.1 (λ s residual. next_const _
    _ c.in_ok-read_const.ensures.reads (next _ c.in_ok-name_bytes.ensures.reads (next _ c.in_ok-read_name.ensures.reads
    (next _ c.in_ok-password_bytes.ensures.reads (exit _ residual c.in_err-read_password.ensures.reads)))))

pub returns : goal.returns
returns g c = read_done (next_const _ _ c.in_ok-read_const.ensures.reads (next _ c.in_ok-name_bytes.ensures.reads (next
    _ c.in_ok-read_name.ensures.reads (next _ c.in_ok-password_bytes.ensures.reads (next _
    c.in_ok-read_password.ensures.reads (own_end _ _)))))) (search rules) c.in_ok-read_name.ensures.keeps
    c.in_ok-read_password.ensures.keeps
