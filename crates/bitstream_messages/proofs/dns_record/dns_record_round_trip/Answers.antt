-- Made by `./format` from formats/dns_record.fields: edit that file and make this one anew.
use Rattle.bitstream_messages.proofs.DnsRecordLemmas.{dns_record_goes, dns_record_packs}
use Rattle.bitstream_messages.proofs.dns_record.dns_record_round_trip.Goals as goal

pub returns-clause-back : goal.returns-clause-back
returns-clause-back c = λ o value at from more fits. (dns_record_goes o value fits).back at from more

pub returns-clause-size : goal.returns-clause-size
returns-clause-size c = λ o value at fits. (dns_record_packs o value fits).size at
