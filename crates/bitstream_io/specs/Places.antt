-- Bit positions in a slice of bytes, as the states of a reader of bits.
use Rattle.std.specs.Prelude.{◌≡◌, ℕ, ◌*◌, ◌/◌, ◌%◌, ◌≤◌, false, List, length, drop}
use Rattle.bitstream_number.specs.Word.{Order}
use Rattle.bitstream_order.specs.Refusal.{Refusal}
use Rattle.bitstream_stream.specs.Reading.Memory.{memory_state, EndsInMemory}
use Rattle.bitstream_stream.specs.Reading.MemorySeek.{memory_bytes}
use Rattle.bitstream_stream.specs.Reading.MemorySource.{memory_source}
use Rattle.bitstream_stream.specs.Reading.MemoryState.{state_demands, state_holds, state_empties}
use Rattle.bitstream_stream.specs.Reading.Reads.{ReaderState, BitSource}
use Rattle.bitstream_io.specs.PlaceLaws.{within_byte, byte_there}
use Rattle.bitstream_stream.specs.declared.read.slice_reader.SliceReader.{SliceReader}
use Rattle.bitstream_io.specs.declared.symbols.spot.Spot.{Spot}

-- a bit position in these bytes, and the I/O errors of the reader that is there
pub record Place : Type 0 where
  pub bytes : List ℕ
  pub bit : ℕ
  pub within : bit ≤ 8 * length bytes
  pub refusals : List Refusal

-- the state of a reader of these bytes at this bit, which has not failed
abbrev pub state_at : Order → List ℕ → ℕ → List Refusal → ReaderState
state_at o bytes bit refusals = memory_state o bytes (drop (bit / 8) bytes) (bit % 8) false refusals

-- the meaning of places as states of a reader
abbrev pub place_source : Order → BitSource Place
place_source o = record {
  order = o;
  state = λ p. state_at o p.bytes p.bit p.refusals;
  may = EndsInMemory;
  demands = λ p. state_demands o p.bytes (drop (p.bit / 8) p.bytes) (p.bit % 8) false p.refusals;
  holds = λ p. state_holds o p.bytes (drop (p.bit / 8) p.bytes) (p.bit % 8) false p.refusals (within_byte p.bit)
      (byte_there p.bytes p.bit p.within);
  empties = λ p. state_empties o p.bytes (drop (p.bit / 8) p.bytes) (p.bit % 8) false p.refusals;
}

-- the place of a spot, in a reader with these I/O errors
abbrev pub spot_place : Spot → List Refusal → Place
spot_place s refusals = record { bytes = s.bytes.now; bit = s.place; within = s.within; refusals = refusals }

-- A reader that has not failed is at this spot of its bytes. It then goes to their start.
pub record Leaves {E : Type 0} (o : Order) (old : SliceReader E) (spot : Spot) (new : SliceReader E) : Type 0 where
  pub fine : old.failed ≡ false
  pub state : (memory_source o).state old ≡ state_at o spot.bytes.now spot.place old.refusals.list
  pub bytes : memory_bytes new ≡ spot.bytes.now
  pub refusals : new.refusals.list ≡ old.refusals.list
