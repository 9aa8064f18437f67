-- Made by `./format` from formats/icmp_header.fields: edit that file and make this one anew.
use Rattle.protocols.proofs.IcmpHeaderLemmas.{icmp_header_goes, icmp_header_packs}
use Rattle.protocols.proofs.icmp_header.icmp_header_round_trip.Goals as goal

pub returns-clause-back : goal.returns-clause-back
returns-clause-back c = λ o value at from more fits. (icmp_header_goes o value fits).back at from more

pub returns-clause-size : goal.returns-clause-size
returns-clause-size c = λ o value at fits. (icmp_header_packs o value fits).size at
