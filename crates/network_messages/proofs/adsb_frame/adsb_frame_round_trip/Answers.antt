-- Made by `./format` from formats/adsb_frame.fields: edit that file and make this one anew.
use Rattle.network_messages.proofs.AdsbFrameLemmas.{adsb_frame_goes, adsb_frame_packs}
use Rattle.network_messages.proofs.adsb_frame.adsb_frame_round_trip.Goals as goal

pub returns-clause-back : goal.returns-clause-back
returns-clause-back c = λ o value at from more fits. (adsb_frame_goes o value fits).back at from more

pub returns-clause-size : goal.returns-clause-size
returns-clause-size c = λ o value at fits. (adsb_frame_packs o value fits).size at
