-- Made by `./format` from formats/icmp_ids.fields: edit that file and make this one anew.
use Rattle.protocols.proofs.IcmpIdsLemmas.{icmp_ids_goes, icmp_ids_packs}
use Rattle.protocols.proofs.icmp_ids.icmp_ids_round_trip.Goals as goal

pub returns-clause-back : goal.returns-clause-back
returns-clause-back c = λ o value at from more fits. (icmp_ids_goes o value fits).back at from more

pub returns-clause-size : goal.returns-clause-size
returns-clause-size c = λ o value at fits. (icmp_ids_packs o value fits).size at
