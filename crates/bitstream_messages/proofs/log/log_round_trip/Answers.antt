-- Made by `./format` from formats/log.fields: edit that file and make this one anew.
use Rattle.bitstream_messages.proofs.LogLemmas.{log_goes, log_packs}
use Rattle.bitstream_messages.proofs.log.log_round_trip.Goals as goal

pub returns-clause-back : goal.returns-clause-back
returns-clause-back c = λ o value at from more fits. (log_goes o value fits).back at from more

pub returns-clause-size : goal.returns-clause-size
returns-clause-size c = λ o value at fits. (log_packs o value fits).size at
