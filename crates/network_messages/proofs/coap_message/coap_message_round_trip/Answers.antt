-- Made by `./format` from formats/coap_message.fields: edit that file and make this one anew.
use Rattle.network_messages.proofs.CoapMessageLemmas.{coap_message_goes, coap_message_packs}
use Rattle.network_messages.proofs.coap_message.coap_message_round_trip.Goals as goal

pub returns-clause-back : goal.returns-clause-back
returns-clause-back c = λ o value at from more fits. (coap_message_goes o value fits).back at from more

pub returns-clause-size : goal.returns-clause-size
returns-clause-size c = λ o value at fits. (coap_message_packs o value fits).size at
