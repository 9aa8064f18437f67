use Rattle.bitstream_stream.proofs.Reading.SeekLemmas.{slice_refuses_none}
use Rattle.bitstream_stream.proofs.laws.slices_refuse_no_seek.Goals as goal

pub returns : goal.returns
returns c = slice_refuses_none
