-- Made by `./format` from formats/mark.fields: edit that file and make this one anew.
use Rattle.bitstream_messages.proofs.MarkLemmas.{mark_goes, mark_packs}
use Rattle.bitstream_messages.proofs.mark.mark_round_trip.Goals as goal

pub returns-clause-back : goal.returns-clause-back
returns-clause-back c = λ o value at from more fits. (mark_goes o value fits).back at from more

pub returns-clause-size : goal.returns-clause-size
returns-clause-size c = λ o value at fits. (mark_packs o value fits).size at
