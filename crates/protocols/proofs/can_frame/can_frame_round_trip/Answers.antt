-- Made by `./format` from formats/can_frame.fields: edit that file and make this one anew.
use Rattle.protocols.proofs.CanFrameLemmas.{can_frame_goes, can_frame_packs}
use Rattle.protocols.proofs.can_frame.can_frame_round_trip.Goals as goal

pub returns-clause-back : goal.returns-clause-back
returns-clause-back c = λ o value at from more fits. (can_frame_goes o value fits).back at from more

pub returns-clause-size : goal.returns-clause-size
returns-clause-size c = λ o value at fits. (can_frame_packs o value fits).size at
