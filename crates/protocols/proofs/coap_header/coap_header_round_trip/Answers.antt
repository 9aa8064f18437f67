-- Made by `./format` from formats/coap_header.fields: edit that file and make this one anew.
use Rattle.protocols.proofs.CoapHeaderLemmas.{coap_header_goes, coap_header_packs}
use Rattle.protocols.proofs.coap_header.coap_header_round_trip.Goals as goal

pub returns-clause-back : goal.returns-clause-back
returns-clause-back c = λ o value at from more fits. (coap_header_goes o value fits).back at from more

pub returns-clause-size : goal.returns-clause-size
returns-clause-size c = λ o value at fits. (coap_header_packs o value fits).size at
