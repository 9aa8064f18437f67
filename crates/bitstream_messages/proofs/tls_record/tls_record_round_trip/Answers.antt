-- Made by `./format` from formats/tls_record.fields: edit that file and make this one anew.
use Rattle.bitstream_messages.proofs.TlsRecordLemmas.{tls_record_goes, tls_record_packs}
use Rattle.bitstream_messages.proofs.tls_record.tls_record_round_trip.Goals as goal

pub returns-clause-back : goal.returns-clause-back
returns-clause-back c = λ o value at from more fits. (tls_record_goes o value fits).back at from more

pub returns-clause-size : goal.returns-clause-size
returns-clause-size c = λ o value at fits. (tls_record_packs o value fits).size at
