-- Made by `./format` from formats/flac_start.fields: edit that file and make this one anew.
use Rattle.bitstream_callers.proofs.FlacStartLemmas.{flac_start_goes, flac_start_packs}
use Rattle.bitstream_callers.proofs.flac_start.flac_start_round_trip.Goals as goal

pub returns-clause-back : goal.returns-clause-back
returns-clause-back c = λ o value at from more fits. (flac_start_goes o value fits).back at from more

pub returns-clause-size : goal.returns-clause-size
returns-clause-size c = λ o value at fits. (flac_start_packs o value fits).size at
