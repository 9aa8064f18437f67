use Rattle.bitstream_stream.proofs.Reading.MemoryWords.{fits_in}
use Rattle.bitstream_stream.proofs.read.slice_reader.SliceReader.take_word.Goals as goal

pub from_u64-requires : goal.from_u64-requires
from_u64-requires g c = fits_in c.args.bits _ _ c.requires.room c.take_few.ensures.below
