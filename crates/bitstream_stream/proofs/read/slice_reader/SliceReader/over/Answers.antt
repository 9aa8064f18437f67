use Rattle.bitstream_stream.proofs.Reading.MemoryLemmas.{new_state}
use Rattle.bitstream_stream.proofs.read.slice_reader.SliceReader.over.Goals as goal

pub returns-clause-state : goal.returns-clause-state
returns-clause-state g c = rw c.new.ensures (new_state g.E.Endianness.order c.args.bytes.now)
