-- Made by `./format` from formats/j1939_frame.fields: edit that file and make this one anew.
use Rattle.protocols.proofs.J1939FrameLemmas.{j1939_frame_goes, j1939_frame_packs}
use Rattle.protocols.proofs.j1939_frame.j1939_frame_round_trip.Goals as goal

pub returns-clause-back : goal.returns-clause-back
returns-clause-back c = λ o value at from more fits. (j1939_frame_goes o value fits).back at from more

pub returns-clause-size : goal.returns-clause-size
returns-clause-size c = λ o value at fits. (j1939_frame_packs o value fits).size at
