use Rattle.flac_codec.proofs.RiceLemmas.{rice-back}
use Rattle.flac_codec.proofs.rice.rice_round_trip.Goals as goal

pub returns : goal.returns
returns c = λ o k x at from more small high. (rice-back o k x small high).back at from more
