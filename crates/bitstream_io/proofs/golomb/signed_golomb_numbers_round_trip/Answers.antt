use Rattle.bitstream_io.proofs.GolombLemmas.{se-back}
use Rattle.bitstream_io.proofs.golomb.signed_golomb_numbers_round_trip.Goals as goal

pub returns : goal.returns
returns c = λ o value at from more small. (se-back o value small).back at from more
