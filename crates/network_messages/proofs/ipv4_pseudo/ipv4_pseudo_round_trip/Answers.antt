-- Made by `./format` from formats/ipv4_pseudo.fields: edit that file and make this one anew.
use Rattle.network_messages.proofs.Ipv4PseudoLemmas.{ipv4_pseudo_goes, ipv4_pseudo_packs}
use Rattle.network_messages.proofs.ipv4_pseudo.ipv4_pseudo_round_trip.Goals as goal

pub returns-clause-back : goal.returns-clause-back
returns-clause-back c = λ o value at from more fits. (ipv4_pseudo_goes o value fits).back at from more

pub returns-clause-size : goal.returns-clause-size
returns-clause-size c = λ o value at fits. (ipv4_pseudo_packs o value fits).size at
