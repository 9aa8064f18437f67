-- Made by `./format` from formats/socks_login.fields: edit that file and make this one anew.
use Rattle.std.proofs.Common.{refl}
use Rattle.bitstream_io.proofs.CallerLemmas.{next_grown_const, exit_grown_const}
use Rattle.bitstream_io.proofs.GrowsLemmas.{go_grown, stop_grown, grown, vec-grown, grown_end}
use Rattle.protocols.proofs.socks_login.SocksLogin.read.Goals as goal

pub returns-in_err-read_const : goal.returns-in_err-read_const
returns-in_err-read_const g c = exit_grown_const _ _ c.from_residual.ensures.1 c.in_err-read_const.ensures.reads refl

pub returns-in_err-name_bytes : goal.returns-in_err-name_bytes
returns-in_err-name_bytes g c = next_grown_const _ _ c.in_ok-read_const.ensures.reads (stop_grown _ (grown
    c.in_err-name_bytes.ensures.reads) c.from_residual-in_err-name_bytes.ensures.1)

pub returns-in_err-name : goal.returns-in_err-name
returns-in_err-name g c = next_grown_const _ _ c.in_ok-read_const.ensures.reads (go_grown _ (grown
    c.in_ok-name_bytes.ensures.reads) (stop_grown _ (vec-grown _ _ c.in_err-name.ensures.reads)
    c.from_residual-in_err-name.ensures.1))

pub returns-in_err-password_bytes : goal.returns-in_err-password_bytes
returns-in_err-password_bytes g c = next_grown_const _ _ c.in_ok-read_const.ensures.reads (go_grown _ (grown
    c.in_ok-name_bytes.ensures.reads) (go_grown _ (vec-grown _ _ c.in_ok-name.ensures.reads) (stop_grown _ (grown
    c.in_err-password_bytes.ensures.reads) c.from_residual-in_err-password_bytes.ensures.1)))

pub returns-in_err-password : goal.returns-in_err-password
returns-in_err-password g c = next_grown_const _ _ c.in_ok-read_const.ensures.reads (go_grown _ (grown
    c.in_ok-name_bytes.ensures.reads) (go_grown _ (vec-grown _ _ c.in_ok-name.ensures.reads) (go_grown _ (grown
    c.in_ok-password_bytes.ensures.reads) (stop_grown _ (vec-grown _ _ c.in_err-password.ensures.reads)
    c.from_residual-in_err-password.ensures.1))))

pub returns : goal.returns
returns g c = next_grown_const _ _ c.in_ok-read_const.ensures.reads (go_grown _ (grown c.in_ok-name_bytes.ensures.reads)
    (go_grown _ (vec-grown _ _ c.in_ok-name.ensures.reads) (go_grown _ (grown c.in_ok-password_bytes.ensures.reads)
    (go_grown _ (vec-grown _ _ c.in_ok-password.ensures.reads) (grown_end _ _)))))
