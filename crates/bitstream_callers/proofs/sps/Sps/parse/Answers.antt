use Rattle.bitstream_io.proofs.CallerLemmas.{own_answered, refl, slice_ends}
use Rattle.bitstream_callers.proofs.sps.Sps.parse.Goals as goal

pub returns : goal.returns
returns c = own_answered slice_ends c.over.ensures.state refl c.read.ensures
