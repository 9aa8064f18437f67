-- Writes to bytes in memory.
use Rattle.std.specs.Prelude.{◌≡◌, ℕ, ◌+◌, ◌<◌, List, [], ◌∷◌, ◌++◌, length, take, drop, Option, Some}
use Rattle.std.specs.Borrow.{GName}
use Rattle.std.specs.declared.io.ErrorKind.{ErrorKind}
use Rattle.std.specs.declared.io.ErrorKind.TheVariants.{WriteZero}
use Rattle.bitstream_order.specs.Reference.{Reference, to_slice}
use Rattle.bitstream_order.specs.Streams.{OutputStream}
use Rattle.bitstream_order.specs.declared.streams.slice_mut.SliceMut.{SliceMut}

-- the bytes that were written
abbrev pub written_bytes : SliceMut → List ℕ
written_bytes s = take s.written s.bytes.now

-- the bytes of a vector, as the known contents of a target
abbrev pub written_contents : SliceMut → Option (List ℕ)
written_contents s = Some (written_bytes s)

-- the number of bytes, written or free
abbrev pub slice_capacity : SliceMut → ℕ
slice_capacity s = length s.bytes.now

-- all bytes of the slice, written or free
abbrev pub slice_bytes : SliceMut → List ℕ
slice_bytes s = s.bytes.now

-- the bytes of the slice as they were when the target was made
abbrev pub slice_was : SliceMut → List ℕ
slice_was s = s.was.list

-- the name of the reference to the bytes
abbrev pub slice_name : SliceMut → GName
slice_name s = s.bytes.ghost_name

-- the reference to the bytes, with their old values
abbrev pub slice_reference : SliceMut → Reference
slice_reference s = to_slice (slice_name s) (slice_was s)

-- A target that reaches a slice by the reference of this name: the bytes that were written are the slice's first ones,
-- and the others are as they were.
pub record HoldsFirst (name : GName) (was : List ℕ) (s : SliceMut) : Type 0 where
  pub reached : slice_name s ≡ name
  pub bytes : slice_bytes s ≡ written_bytes s ++ drop (length (written_bytes s)) was

-- A request fails if, and only if, it has more bytes than are free. The kind is then `WriteZero`, and nothing changes.
abbrev pub slice_refuses_write : SliceMut → ℕ → ErrorKind → SliceMut → Type 0
slice_refuses_write before wanted kind after = (kind ≡ WriteZero)
    × (slice_capacity before < length (written_bytes before) + wanted) × (after ≡ before)

-- bytes in memory as a target: a flush changes nothing
abbrev pub slice_mut_stream : OutputStream SliceMut
slice_mut_stream = record {
  contents = written_contents;
  references = λ target. slice_reference target ∷ [];
  refuses = slice_refuses_write;
  flushes = λ before after. after ≡ before;
}
