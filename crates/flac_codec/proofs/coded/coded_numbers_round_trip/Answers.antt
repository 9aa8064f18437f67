use Rattle.flac_codec.proofs.CodedLemmas.{coded-back}
use Rattle.flac_codec.proofs.coded.coded_numbers_round_trip.Goals as goal

pub returns : goal.returns
returns c = λ o number at from more small. (coded-back o number small).back at from more
