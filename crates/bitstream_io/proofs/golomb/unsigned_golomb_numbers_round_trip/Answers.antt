use Rattle.bitstream_io.proofs.GolombLemmas.{ue-back}
use Rattle.bitstream_io.proofs.golomb.unsigned_golomb_numbers_round_trip.Goals as goal

pub returns : goal.returns
returns c = λ o value at from more small. (ue-back o value small).back at from more
