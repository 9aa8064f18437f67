-- Made by `./format` from formats/event.fields: edit that file and make this one anew.
use Rattle.bitstream_messages.proofs.EventLemmas.{event_goes, event_packs}
use Rattle.bitstream_messages.proofs.event.event_round_trip.Goals as goal

pub returns-clause-back : goal.returns-clause-back
returns-clause-back c = λ o value at from more fits. (event_goes o value fits).back at from more

pub returns-clause-size : goal.returns-clause-size
returns-clause-size c = λ o value at fits. (event_packs o value fits).size at
