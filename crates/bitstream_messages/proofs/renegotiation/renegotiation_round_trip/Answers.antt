-- Made by `./format` from formats/renegotiation.fields: edit that file and make this one anew.
use Rattle.bitstream_messages.proofs.RenegotiationLemmas.{renegotiation_goes, renegotiation_packs}
use Rattle.bitstream_messages.proofs.renegotiation.renegotiation_round_trip.Goals as goal

pub returns-clause-back : goal.returns-clause-back
returns-clause-back c = λ o value at from more fits. (renegotiation_goes o value fits).back at from more

pub returns-clause-size : goal.returns-clause-size
returns-clause-size c = λ o value at fits. (renegotiation_packs o value fits).size at
