-- The effect of a seek on a reader of bytes in memory.
use Rattle.std.specs.Prelude.{◌≡◌, ℕ, ◌*◌, ◌<◌, ◌≤◌, false, List, length, drop, Option, Some, IfSome, Result, Ok, Err}
use Rattle.std.specs.declared.io.traits.SeekFrom.{SeekFrom}
use Rattle.bitstream_count.specs.declared.error.Error.{Error}
use Rattle.bitstream_count.specs.declared.error.Error.TheVariants.{Place}
use Rattle.bitstream_number.specs.Word.{Order, bits}
use Rattle.bitstream_stream.specs.Reading.Reads.{bits_left}
use Rattle.bitstream_stream.specs.Reading.Seek.{SeekerOf, HadFailed, KnowsStart, Means}
use Rattle.bitstream_stream.specs.Reading.MemorySource.{memory_source}
use Rattle.bitstream_stream.specs.declared.read.slice_reader.SliceReader.{SliceReader}

-- all bytes of a reader, from place 0 on
abbrev pub memory_bytes : {E : Type 0} → SliceReader E → List ℕ
memory_bytes r = r.all.now

-- The meaning of the states of a reader of bytes in memory, as a reader that seeks. It makes no request, so
-- none fails.
abbrev pub memory_seeker : {E : Type 0} → Order → SeekerOf (SliceReader E)
memory_seeker o = record {
  source = memory_source o;
  position = λ r. Some ((memory_source o).state r).fetched;
  bytes = λ r. Some (memory_bytes r);
  may = λ to refusal. ⊥;
}

-- A reader reads on from the bit at this place of its bytes. The bits taken stay counted from the first byte on.
pub record StandsAt {E : Type 0} (o : Order) (place : ℕ) (old new : SliceReader E) : Type 0 where
  pub failed : ((memory_source o).state new).failed ≡ false
  pub taken : ((memory_source o).state new).taken ≡ place
  pub left : bits_left o ((memory_source o).state new) ≡ Some (drop place (bits o (memory_bytes old)))
  pub bytes : memory_bytes new ≡ memory_bytes old
  pub refusals : ((memory_source o).state new).refusals ≡ ((memory_source o).state old).refusals

-- Going to a place, if there is one. The place may be the end of the bytes. A place past the end is rejected, and the
-- reader is unchanged.
pub data GoesWithin {E : Type 0} (o : Order) (place : Option ℕ) (old : SliceReader E) (result : Result ℕ Error)
    (new : SliceReader E) : Type 0 where
  was_done : (at : ℕ) → place ≡ Some at → at ≤ 8 * length (memory_bytes old) → result ≡ Ok at → StandsAt o at old new
      → GoesWithin o place old result new
  was_rejected : IfSome place (λ at. 8 * length (memory_bytes old) < at) → result ≡ Err Place → new ≡ old
      → GoesWithin o place old result new

-- A seek. The reader had failed, and it is a `Current`; or the reader goes to the place that is meant.
pub data SeeksInMemory {E : Type 0} (o : Order) (to : SeekFrom) (old : SliceReader E) (result : Result ℕ Error)
    (new : SliceReader E) : Type 0 where
  had_failed : HadFailed (memory_seeker o) to old result new → SeeksInMemory o to old result new
  was_meant : (place : Option ℕ) → KnowsStart to ((memory_source o).state old) → Means (memory_seeker o) to old place
      → GoesWithin o place old result new → SeeksInMemory o to old result new
