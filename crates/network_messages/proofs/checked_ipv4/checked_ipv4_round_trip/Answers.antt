-- Made by `./format` from formats/checked_ipv4.fields: edit that file and make this one anew.
use Rattle.network_messages.proofs.CheckedIpv4Lemmas.{checked_ipv4_goes, checked_ipv4_packs}
use Rattle.network_messages.proofs.checked_ipv4.checked_ipv4_round_trip.Goals as goal

pub returns-clause-back : goal.returns-clause-back
returns-clause-back c = λ o value at from more fits. (checked_ipv4_goes o value fits).back at from more

pub returns-clause-size : goal.returns-clause-size
returns-clause-size c = λ o value at fits. (checked_ipv4_packs o value fits).size at
