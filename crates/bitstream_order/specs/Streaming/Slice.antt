-- Reads of bytes in memory, and their positions.
use Rattle.std.specs.Prelude.{◌≡◌, ℕ, ℤ, pos, ◌+◌, ◌-◌, ◌<◌, ◌+ℤ◌, List, [], length, Option, Some}
use Rattle.std.specs.Int.{FitsUnsigned, w64}
use Rattle.std.specs.declared.io.ErrorKind.{ErrorKind}
use Rattle.std.specs.declared.io.ErrorKind.TheVariants.{UnexpectedEof, InvalidInput}
use Rattle.std.specs.declared.io.traits.SeekFrom.{SeekFrom}
use Rattle.std.specs.declared.io.traits.SeekFrom.TheVariants.{Start, End, Current}
use Rattle.bitstream_order.specs.Streams.{InputStream}
use Rattle.bitstream_order.specs.declared.streams.slice.Slice.{Slice}

-- the bytes left
abbrev pub slice_remaining : Slice → Option (List ℕ)
slice_remaining s = Some s.bytes.now

-- all bytes, from position 0 on
abbrev pub slice_bytes : Slice → List ℕ
slice_bytes s = s.all.now

-- the bytes that are left
abbrev pub slice_left : Slice → List ℕ
slice_left s = s.bytes.now

-- the position in bytes, which may be past the end
abbrev pub slice_place : Slice → ℕ
slice_place s = (length s.all.now - length s.bytes.now) + s.past

-- A request fails if, and only if, it asks for more bytes than are left. The kind is then `UnexpectedEof`, and nothing
-- changes.
abbrev pub slice_refuses : Slice → ℕ → ErrorKind → Slice → Type 0
slice_refuses before wanted kind after = (kind ≡ UnexpectedEof) × (length before.bytes.now < wanted)
    × (after ≡ before)

-- a request moved the position by the number of bytes that it took; the bytes are unchanged
abbrev pub slice_takes : Slice → ℕ → Slice → Type 0
slice_takes before count after = (slice_bytes after ≡ slice_bytes before)
    × (slice_place after ≡ slice_place before + count)

-- bytes in memory as a source
abbrev pub slice_stream : InputStream Slice
slice_stream = record {
  remaining = slice_remaining;
  references = λ _. [];
  refuses = slice_refuses;
  takes = slice_takes;
}

-- the position that a seek means, from the current position and the number of bytes
abbrev pub byte_meant : ℕ → ℕ → SeekFrom → ℤ
byte_meant place len (Start n) = pos n
byte_meant place len (End offset) = pos len +ℤ offset
byte_meant place len (Current offset) = pos place +ℤ offset

-- A seek fails if, and only if, its position is below 0 or above 2^64 - 1. The kind is then `InvalidInput`, and nothing
-- changes.
abbrev pub slice_refuses_seek : Slice → SeekFrom → ErrorKind → Slice → Type 0
slice_refuses_seek before to kind after =
    (kind ≡ InvalidInput) × (FitsUnsigned w64 (byte_meant (slice_place before) (length (slice_bytes before)) to) → ⊥)
    × (after ≡ before)
