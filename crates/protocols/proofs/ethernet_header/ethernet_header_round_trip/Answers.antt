-- Made by `./format` from formats/ethernet_header.fields: edit that file and make this one anew.
use Rattle.protocols.proofs.EthernetHeaderLemmas.{ethernet_header_goes, ethernet_header_packs}
use Rattle.protocols.proofs.ethernet_header.ethernet_header_round_trip.Goals as goal

pub returns-clause-back : goal.returns-clause-back
returns-clause-back c = λ o value at from more fits. (ethernet_header_goes o value fits).back at from more

pub returns-clause-size : goal.returns-clause-size
returns-clause-size c = λ o value at fits. (ethernet_header_packs o value fits).size at
