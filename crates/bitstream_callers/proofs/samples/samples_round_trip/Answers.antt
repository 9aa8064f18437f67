use Rattle.bitstream_io.proofs.CallerLemmas.{refl, numbers-read}
use Rattle.bitstream_callers.proofs.samples.samples_round_trip.Goals as goal

pub returns : goal.returns
returns c = λ o samples at from more fit. numbers-read o 16 12 samples refl fit at from more
