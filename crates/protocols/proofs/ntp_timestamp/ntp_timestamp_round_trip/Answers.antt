-- Made by `./format` from formats/ntp_timestamp.fields: edit that file and make this one anew.
use Rattle.protocols.proofs.NtpTimestampLemmas.{ntp_timestamp_goes, ntp_timestamp_packs}
use Rattle.protocols.proofs.ntp_timestamp.ntp_timestamp_round_trip.Goals as goal

pub returns-clause-back : goal.returns-clause-back
returns-clause-back c = λ o value at from more fits. (ntp_timestamp_goes o value fits).back at from more

pub returns-clause-size : goal.returns-clause-size
returns-clause-size c = λ o value at fits. (ntp_timestamp_packs o value fits).size at
