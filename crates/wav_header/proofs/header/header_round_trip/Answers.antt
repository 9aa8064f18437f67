-- Made by `./format` from formats/header.fields: edit that file and make this one anew.
use Rattle.wav_header.proofs.HeaderLemmas.{header_goes, header_packs}
use Rattle.wav_header.proofs.header.header_round_trip.Goals as goal

pub returns-clause-back : goal.returns-clause-back
returns-clause-back c = λ o value at from more fits. (header_goes o value fits).back at from more

pub returns-clause-size : goal.returns-clause-size
returns-clause-size c = λ o value at fits. (header_packs o value fits).size at
