-- Made by `./format` from formats/icmp_echo.fields: edit that file and make this one anew.
use Rattle.protocols.proofs.IcmpEchoLemmas.{icmp_echo_goes, icmp_echo_packs}
use Rattle.protocols.proofs.icmp_echo.icmp_echo_round_trip.Goals as goal

pub returns-clause-back : goal.returns-clause-back
returns-clause-back c = λ o value at from more fits. (icmp_echo_goes o value fits).back at from more

pub returns-clause-size : goal.returns-clause-size
returns-clause-size c = λ o value at fits. (icmp_echo_packs o value fits).size at
