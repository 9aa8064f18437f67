-- Made by `./format` from formats/icmp_gateway.fields: edit that file and make this one anew.
use Rattle.protocols.proofs.IcmpGatewayLemmas.{icmp_gateway_goes, icmp_gateway_packs}
use Rattle.protocols.proofs.icmp_gateway.icmp_gateway_round_trip.Goals as goal

pub returns-clause-back : goal.returns-clause-back
returns-clause-back c = λ o value at from more fits. (icmp_gateway_goes o value fits).back at from more

pub returns-clause-size : goal.returns-clause-size
returns-clause-size c = λ o value at fits. (icmp_gateway_packs o value fits).size at
