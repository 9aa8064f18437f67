-- Made by `./format` from formats/frame.fields: edit that file and make this one anew.
use Rattle.bitstream_messages.proofs.FrameLemmas.{frame_goes, frame_packs}
use Rattle.bitstream_messages.proofs.frame.frame_round_trip.Goals as goal

pub returns-clause-back : goal.returns-clause-back
returns-clause-back c = λ o value at from more fits. (frame_goes o value fits).back at from more

pub returns-clause-size : goal.returns-clause-size
returns-clause-size c = λ o value at fits. (frame_packs o value fits).size at
