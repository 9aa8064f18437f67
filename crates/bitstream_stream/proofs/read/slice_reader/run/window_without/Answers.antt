use Rattle.bitstream_stream.proofs.Reading.MemoryRuns.{zeros_alone, ones_alone}
use Rattle.bitstream_stream.proofs.read.slice_reader.run.window_without.Goals as goal

pub returns-then-stop : goal.returns-then-stop
returns-then-stop g c = rw c.if-stop.true (zeros_alone g.E.Endianness.order)

pub returns-else-stop : goal.returns-else-stop
returns-else-stop g c = rw c.if-stop.false (ones_alone g.E.Endianness.order)
