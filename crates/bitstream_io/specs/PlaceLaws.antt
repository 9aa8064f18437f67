-- The laws of a place in bytes. These are lemmas: the source of bits that uses them has its laws in it.
use Rattle.std.proofs.Common.{ℕ, ◌*◌, ◌/◌, ◌%◌, ◌<◌, ◌≤◌, List, length, drop, arith}
use Rattle.std.proofs.lemmas.List.{length-drop}

pub within_byte : (bit : ℕ) → bit % 8 < 8
within_byte bit = omega arith

-- a byte with some bits before the place exists
pub byte_there : (bytes : List ℕ) (bit : ℕ) → bit ≤ 8 * length bytes → 0 < bit % 8 → 1 ≤ length (drop (bit / 8) bytes)
byte_there bytes bit within some = omega (arith, within, some, length-drop (bit / 8) bytes)
