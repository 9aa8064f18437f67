use Rattle.std.proofs.Common.{refl, inl, inr}
use Rattle.bitstream_io.proofs.CallerLemmas.{own_grown_answered, slice_ends}
use Rattle.flac_codec.proofs.LosslessLemmas.{memory_refused, samples_read}
use Rattle.flac_codec.proofs.lossless.decode.Goals as goal

pub returns-clause-meaning : goal.returns-clause-meaning
returns-clause-meaning c = own_grown_answered slice_ends c.over.ensures.state refl c.read_subframe.ensures

pub returns-clause-back : goal.returns-clause-back
returns-clause-back c = λ samples known. elim (own_grown_answered slice_ends c.over.ensures.state refl c.read_subframe.ensures) [
  | inl own ↦ samples_read _ samples (rw known.1 at own)
  | inr refused ↦ memory_refused _ samples refused.0
]
