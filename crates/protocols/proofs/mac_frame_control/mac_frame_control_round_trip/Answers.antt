-- Made by `./format` from formats/mac_frame_control.fields: edit that file and make this one anew.
use Rattle.protocols.proofs.MacFrameControlLemmas.{mac_frame_control_goes, mac_frame_control_packs}
use Rattle.protocols.proofs.mac_frame_control.mac_frame_control_round_trip.Goals as goal

pub returns-clause-back : goal.returns-clause-back
returns-clause-back c = λ o value at from more fits. (mac_frame_control_goes o value fits).back at from more

pub returns-clause-size : goal.returns-clause-size
returns-clause-size c = λ o value at fits. (mac_frame_control_packs o value fits).size at
