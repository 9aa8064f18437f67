-- Made by `./format` from formats/stream_info.fields: edit that file and make this one anew.
use Rattle.flac_codec.proofs.StreamInfoLemmas.{stream_info_goes, stream_info_packs}
use Rattle.flac_codec.proofs.stream_info.stream_info_round_trip.Goals as goal

pub returns-clause-back : goal.returns-clause-back
returns-clause-back c = λ o value at from more fits. (stream_info_goes o value fits).back at from more

pub returns-clause-size : goal.returns-clause-size
returns-clause-size c = λ o value at fits. (stream_info_packs o value fits).size at
