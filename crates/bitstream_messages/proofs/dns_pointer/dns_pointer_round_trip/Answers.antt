-- Made by `./format` from formats/dns_pointer.fields: edit that file and make this one anew.
use Rattle.bitstream_messages.proofs.DnsPointerLemmas.{dns_pointer_goes, dns_pointer_packs}
use Rattle.bitstream_messages.proofs.dns_pointer.dns_pointer_round_trip.Goals as goal

pub returns-clause-back : goal.returns-clause-back
returns-clause-back c = λ o value at from more fits. (dns_pointer_goes o value fits).back at from more

pub returns-clause-size : goal.returns-clause-size
returns-clause-size c = λ o value at fits. (dns_pointer_packs o value fits).size at
