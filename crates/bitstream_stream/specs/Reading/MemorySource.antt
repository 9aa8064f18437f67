-- The meaning of the states of a reader of bytes in memory.
use Rattle.bitstream_number.specs.Word.{Order}
use Rattle.bitstream_stream.specs.Reading.Reads.{BitSource}
use Rattle.bitstream_stream.specs.Reading.Memory.{memory_state, EndsInMemory}
use Rattle.bitstream_stream.specs.declared.read.slice_reader.SliceReader.{SliceReader}
use Rattle.bitstream_stream.specs.Reading.MemoryState.{state_demands, state_holds, state_empties}

-- a reader of bytes in memory as a source of bits
abbrev pub memory_source : {E : Type 0} → Order → BitSource (SliceReader E)
memory_source o = record {
  order = o;
  state = λ r. memory_state o r.all.now r.bytes.now r.bit r.failed r.refusals.list;
  may = EndsInMemory;
  demands = λ r. state_demands o r.all.now r.bytes.now r.bit r.failed r.refusals.list;
  holds = λ r. state_holds o r.all.now r.bytes.now r.bit r.failed r.refusals.list r.few r.some;
  empties = λ r. state_empties o r.all.now r.bytes.now r.bit r.failed r.refusals.list;
}
