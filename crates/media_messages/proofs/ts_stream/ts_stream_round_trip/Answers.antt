-- Made by `./format` from formats/ts_stream.fields: edit that file and make this one anew.
use Rattle.media_messages.proofs.TsStreamLemmas.{ts_stream_goes, ts_stream_packs}
use Rattle.media_messages.proofs.ts_stream.ts_stream_round_trip.Goals as goal

pub returns-clause-back : goal.returns-clause-back
returns-clause-back c = λ o value at from more fits. (ts_stream_goes o value fits).back at from more

pub returns-clause-size : goal.returns-clause-size
returns-clause-size c = λ o value at fits. (ts_stream_packs o value fits).size at
