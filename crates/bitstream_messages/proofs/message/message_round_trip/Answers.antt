-- Made by `./format` from formats/message.fields: edit that file and make this one anew.
use Rattle.bitstream_messages.proofs.MessageLemmas.{message_goes, message_packs}
use Rattle.bitstream_messages.proofs.message.message_round_trip.Goals as goal

pub returns-clause-back : goal.returns-clause-back
returns-clause-back c = λ o value at from more fits. (message_goes o value fits).back at from more

pub returns-clause-size : goal.returns-clause-size
returns-clause-size c = λ o value at fits. (message_packs o value fits).size at
