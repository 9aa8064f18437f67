-- Made by `./format` from formats/dns_message.fields: edit that file and make this one anew.
use Rattle.bitstream_messages.proofs.DnsMessageLemmas.{dns_message_goes, dns_message_packs}
use Rattle.bitstream_messages.proofs.dns_message.dns_message_round_trip.Goals as goal

pub returns-clause-back : goal.returns-clause-back
returns-clause-back c = λ o value at from more fits. (dns_message_goes o value fits).back at from more

pub returns-clause-size : goal.returns-clause-size
returns-clause-size c = λ o value at fits. (dns_message_packs o value fits).size at
