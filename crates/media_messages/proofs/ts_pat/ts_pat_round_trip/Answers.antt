-- Made by `./format` from formats/ts_pat.fields: edit that file and make this one anew.
use Rattle.media_messages.proofs.TsPatLemmas.{ts_pat_goes, ts_pat_packs}
use Rattle.media_messages.proofs.ts_pat.ts_pat_round_trip.Goals as goal

pub returns-clause-back : goal.returns-clause-back
returns-clause-back c = λ o value at from more fits. (ts_pat_goes o value fits).back at from more

pub returns-clause-size : goal.returns-clause-size
returns-clause-size c = λ o value at fits. (ts_pat_packs o value fits).size at
