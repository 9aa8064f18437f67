-- What calls do to a writer of C.
use Rattle.std.specs.Prelude.{◌≡◌, ℕ, ℤ, pos, negsuc, ◌+◌, ◌*◌, ◌^◌, ◌<◌, ◌≤◌, Bool, List, ◌++◌, length, take, drop}
use Rattle.bitstream_io.specs.Callers.{Order, bits}
use Rattle.bits_c.specs.declared.writer.BitsWriter.{BitsWriter}

-- the buffer has `count` more bits, and the place after them is below 2^64: this lacks only in more than 2^61 bytes
abbrev pub HasRoom : BitsWriter → ℕ → Type 0
HasRoom writer count = (writer.at + count ≤ 8 * length writer.bytes.now) × (writer.at + count < 2 ^ 64)

-- bits with a word in place of those from a place on: the bits before the word and after it stay
abbrev pub replaced : ℕ → List Bool → List Bool → List Bool
replaced at w xs = take at xs ++ (w ++ drop (at + length w) xs)

-- it writes to the same buffer at the same place, and the bytes of the buffer are as before
pub record IsSameWriter (old new : BitsWriter) : Type 0 where
  pub buffer : new.bytes.ghost_name ≡ old.bytes.ghost_name
  pub bytes : new.bytes.now ≡ old.bytes.now
  pub at : new.at ≡ old.at

-- this word was written to the same buffer: the bits before the place and after the word are as before
pub record Wrote (o : Order) (w : List Bool) (old new : BitsWriter) : Type 0 where
  pub buffer : new.bytes.ghost_name ≡ old.bytes.ghost_name
  pub bytes : bits o new.bytes.now ≡ replaced old.at w (bits o old.bytes.now)
  pub at : new.at ≡ old.at + length w

-- a write of this word: it is written and the status is 0 if the buffer has room for it, else the status is 4
pub record WritesBits (o : Order) (w : List Bool) (old : BitsWriter) (status : ℤ) (new : BitsWriter) : Type 0 where
  pub there : HasRoom old (length w) → (status ≡ pos 0) × Wrote o w old new
  pub short : ¬ HasRoom old (length w) → (status ≡ pos 4) × IsSameWriter old new

-- a number, or for a negative number -1 minus it
abbrev pub magnitude : ℤ → ℕ
magnitude (pos n) = n
magnitude (negsuc n) = n
