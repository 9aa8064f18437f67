-- Made by `./format` from formats/socks_login.fields: edit that file and make this one anew.
use Rattle.protocols.proofs.SocksLoginLemmas.{socks_login_goes, socks_login_packs}
use Rattle.protocols.proofs.socks_login.socks_login_round_trip.Goals as goal

pub returns-clause-back : goal.returns-clause-back
returns-clause-back c = λ o value at from more fits. (socks_login_goes o value fits).back at from more

pub returns-clause-size : goal.returns-clause-size
returns-clause-size c = λ o value at fits. (socks_login_packs o value fits).size at
