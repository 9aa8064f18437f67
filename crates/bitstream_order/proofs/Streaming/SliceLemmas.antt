-- Reads of bytes in memory fail only at the end, and the bytes left are known. A seek within range never fails.
use Rattle.std.proofs.Common.{◌≡◌, ℕ, ℤ, pos, ◌+ℤ◌, ◌^◌, ◌<◌, length, drop, Some, refl, sym, ap, subst, arith, w64}
use Rattle.std.proofs.lemmas.Int.{ints}
use Rattle.std.specs.Int.{FitsUnsigned}
use Rattle.std.specs.declared.io.traits.SeekFrom.{SeekFrom}
use Rattle.std.specs.declared.io.traits.SeekFrom.TheVariants.{Start, End, Current}
use Rattle.bitstream_order.specs.Refusal.{MayRefuseRead, TrueEnds}
use Rattle.bitstream_order.specs.Streaming.Slice.{byte_meant, slice_bytes, slice_place, slice_remaining, slice_stream}
use Rattle.bitstream_order.specs.declared.streams.slice.Slice.{Slice}
use Rattle.bitstream_order.proofs.Streaming.FaultLemmas.{ends_true}
use Rattle.bitstream_order.proofs.Streaming.TailLemmas.{behind_place}

pub slice_ends : TrueEnds (MayRefuseRead slice_stream)
slice_ends = ends_true (λ before after wanted kind refused. (before.bytes.now, refl, refused.0, refused.1))

-- the bytes left are the bytes after the position
pub slice_rest : (s : Slice) → slice_remaining s ≡ Some (drop (slice_place s) (slice_bytes s))
slice_rest s = ap Some (sym (behind_place s.past s.bytes.now s.all.now s.tail s.ended))

-- a number below 2^64 is in range
pub in_range : (k : ℕ) → k < 2 ^ 64 → FitsUnsigned w64 (pos k)
in_range k below = (omega (arith, ints), omega (arith, ints))

in_range_still : (k : ℕ) (d : ℤ) → d ≡ pos 0 → k < 2 ^ 64 → FitsUnsigned w64 (pos k +ℤ d)
in_range_still k d none below = subst (λ x. FitsUnsigned w64 (pos k +ℤ x)) (sym none) (
  omega (arith, ints),
  omega (arith, ints),
)

-- a place below 2^64, the end, or the place itself
abbrev pub IsNear : SeekFrom → Type 0
IsNear (Start n) = n < 2 ^ 64
IsNear (End d) = d ≡ pos 0
IsNear (Current d) = d ≡ pos 0

-- a seek to one of these positions is in range, whatever the current position is
pub slice_in_range : (s : Slice) (to : SeekFrom) → IsNear to
    → FitsUnsigned w64 (byte_meant (slice_place s) (length (slice_bytes s)) to)
slice_in_range s (Start n) near = in_range n (omega (arith, near))
slice_in_range s (End d) near = in_range_still (length s.all.now) d near (omega (arith, s.places))
slice_in_range s (Current d) near = in_range_still (slice_place s) d near (omega (arith, s.places))
