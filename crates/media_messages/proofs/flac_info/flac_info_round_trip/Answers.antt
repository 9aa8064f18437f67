-- Made by `./format` from formats/flac_info.fields: edit that file and make this one anew.
use Rattle.media_messages.proofs.FlacInfoLemmas.{flac_info_goes, flac_info_packs}
use Rattle.media_messages.proofs.flac_info.flac_info_round_trip.Goals as goal

pub returns-clause-back : goal.returns-clause-back
returns-clause-back c = λ o value at from more fits. (flac_info_goes o value fits).back at from more

pub returns-clause-size : goal.returns-clause-size
returns-clause-size c = λ o value at fits. (flac_info_packs o value fits).size at
