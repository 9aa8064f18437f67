use Rattle.bitstream_formats.proofs.Leb128Lemmas.{leb128-back}
use Rattle.bitstream_formats.proofs.av1.leb128.leb128_numbers_round_trip.Goals as goal

pub returns : goal.returns
returns c = λ o value at from more small. (leb128-back o value small).back at from more
