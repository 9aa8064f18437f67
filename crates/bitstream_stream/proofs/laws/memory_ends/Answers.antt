use Rattle.bitstream_stream.proofs.Reading.MemoryLemmas.{memory_ends}
use Rattle.bitstream_stream.proofs.laws.memory_ends.Goals as goal

pub returns : goal.returns
returns g c = memory_ends
