-- Made by `./format` from formats/sample.fields: edit that file and make this one anew.
use Rattle.bitstream_callers.proofs.SampleLemmas.{sample_goes, sample_packs}
use Rattle.bitstream_callers.proofs.sample.sample_round_trip.Goals as goal

pub returns-clause-back : goal.returns-clause-back
returns-clause-back c = λ o value at from more fits. (sample_goes o value fits).back at from more

pub returns-clause-size : goal.returns-clause-size
returns-clause-size c = λ o value at fits. (sample_packs o value fits).size at
