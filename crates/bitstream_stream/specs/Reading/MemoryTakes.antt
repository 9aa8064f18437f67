-- The bits taken from bytes in memory.
use Rattle.std.specs.Prelude.{◌≡◌, ℕ, ◌+◌, ◌*◌, ◌/◌, ◌%◌, ◌^◌, ◌<◌, ◌≤◌, ◌∷◌, true, false, length, take, drop, Some, Result, Err}
use Rattle.bitstream_count.specs.declared.error.Error.{Error}
use Rattle.bitstream_count.specs.declared.error.Error.TheVariants.{EndOfInput}
use Rattle.bitstream_number.specs.Word.{Order, word}
use Rattle.bitstream_order.specs.Refusal.{Refusal}
use Rattle.bitstream_stream.specs.Reading.Memory.{held, rest_bits, EndsInMemory}
use Rattle.bitstream_stream.specs.Reading.MemorySource.{memory_source}
use Rattle.bitstream_stream.specs.declared.read.slice_reader.SliceReader.{SliceReader}

-- a reader advances by n bits, which are left
pub record GoesOn {E : Type 0} (n : ℕ) (old new : SliceReader E) : Type 0 where
  pub enough : old.bit + n ≤ 8 * length old.bytes.now
  pub all : new.all.now ≡ old.all.now
  pub bytes : new.bytes.now ≡ drop ((old.bit + n) / 8) old.bytes.now
  pub bit : new.bit ≡ (old.bit + n) % 8
  pub failed : new.failed ≡ old.failed
  pub refusals : new.refusals.list ≡ old.refusals.list

-- a reader is at this bit of its bytes, and has not failed
pub record IsAt {E : Type 0} (place : ℕ) (old new : SliceReader E) : Type 0 where
  pub all : new.all.now ≡ old.all.now
  pub bytes : new.bytes.now ≡ drop (place / 8) old.all.now
  pub bit : new.bit ≡ place % 8
  pub failed : new.failed ≡ false
  pub refusals : new.refusals.list ≡ old.refusals.list

-- the next n bits are the encoding of v, and are taken
pub record TakesNumber {E : Type 0} (o : Order) (n v : ℕ) (old new : SliceReader E) : Type 0 where
  pub goes : GoesOn n old new
  pub word : take n (rest_bits o old.bytes.now old.bit) ≡ word o n v
  pub below : v < 2 ^ n

-- if too few bits are left, a call that is one read takes none, and the reader stays where it was
abbrev pub StaysAtEnd : {E A : Type 0} → Order → SliceReader E → Result A Error → SliceReader E → Type 0
StaysAtEnd o old result new =
    result ≡ Err EndOfInput → ((memory_source o).state new).taken ≡ ((memory_source o).state old).taken

-- a reader fails at the end of its bytes, and loses none
pub record FailsAtEnd {E : Type 0} (old new : SliceReader E) : Type 0 where
  pub refusal : Refusal
  pub allowed : EndsInMemory refusal
  pub before : refusal.before ≡ Some (drop (held old.bit) old.bytes.now)
  pub all : new.all.now ≡ old.all.now
  pub bytes : new.bytes.now ≡ old.bytes.now
  pub bit : new.bit ≡ old.bit
  pub failed : new.failed ≡ true
  pub refusals : new.refusals.list ≡ refusal ∷ old.refusals.list
