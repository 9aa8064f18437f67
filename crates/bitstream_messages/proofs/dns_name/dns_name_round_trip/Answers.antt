-- Made by `./format` from formats/dns_name.fields: edit that file and make this one anew.
use Rattle.bitstream_messages.proofs.DnsNameLemmas.{dns_name_goes, dns_name_packs}
use Rattle.bitstream_messages.proofs.dns_name.dns_name_round_trip.Goals as goal

pub returns-clause-back : goal.returns-clause-back
returns-clause-back c = λ o value at from more fits. (dns_name_goes o value fits).back at from more

pub returns-clause-size : goal.returns-clause-size
returns-clause-size c = λ o value at fits. (dns_name_packs o value fits).size at
