-- Places of bits in a stream.
use Rattle.std.specs.Prelude.{ℕ, ℤ, pos, negsuc, ◌*◌, ◌^◌, ◌+ℤ◌, ◌-ℤ◌, nat_lt, if◌then◌else◌, Option, Some, None}
use Rattle.std.specs.declared.io.traits.SeekFrom.{SeekFrom}
use Rattle.std.specs.declared.io.traits.SeekFrom.TheVariants.{Start, End, Current}

-- The bit that is meant, in a stream that is at the byte `at` (for `End`: that ends there) with this number of
-- bits queued. `End` counts back from the end.
abbrev pub bit_meant : ℕ → ℕ → SeekFrom → ℤ
bit_meant at queued (Start x) = pos x
bit_meant at queued (End n) = pos (8 * at) -ℤ n
bit_meant at queued (Current d) = (pos (8 * at) -ℤ pos queued) +ℤ d

-- a number, if it is from 0 to 2^64 - 1
abbrev pub place_of : ℤ → Option ℕ
place_of (pos k) = if nat_lt k (2 ^ 64) then Some k else None
place_of (negsuc k) = None
