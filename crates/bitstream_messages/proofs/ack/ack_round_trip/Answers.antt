-- Made by `./format` from formats/ack.fields: edit that file and make this one anew.
use Rattle.bitstream_messages.proofs.AckLemmas.{ack_goes, ack_packs}
use Rattle.bitstream_messages.proofs.ack.ack_round_trip.Goals as goal

pub returns-clause-back : goal.returns-clause-back
returns-clause-back c = λ o value at from more fits. (ack_goes o value fits).back at from more

pub returns-clause-size : goal.returns-clause-size
returns-clause-size c = λ o value at fits. (ack_packs o value fits).size at
