-- Windows of ten bits, and the code word with which each begins.
use Rattle.std.specs.Prelude.{◌≡◌, ℕ, ◌+◌, ◌-◌, ◌*◌, ◌^◌, ◌<◌, ◌≤◌, Bool, List, Some, Ok, length, take, drop, nat_le, nat_lt, slice_get, if◌then◌else◌}
use Rattle.bitstream_count.specs.Codec.{Prefix, Incomplete, Done}
use Rattle.bitstream_number.specs.Word.{Order, High, Low, word, bits}
use Rattle.bitstream_value.specs.Tree.{Tree, path_decoder}
use Rattle.bitstream_io.specs.declared.symbols.Found.{Found}

-- The ten bits of the window at index k. The first 1024 windows are numbers whose highest bit comes first, and the
-- others are numbers whose lowest bit comes first.
abbrev pub window_word : ℕ → List Bool
window_word k = if nat_lt k 1024 then word High 10 k else word Low 10 (k - 1024)

-- what a window begins with: a code word of at most ten bits and its symbol, or a longer code word
abbrev pub found_prefix : {S : Type 0} → Found S → Prefix S
found_prefix f = if nat_le f.bits 10 then Done f.bits (Ok f.symbol) else Incomplete

-- an entry states what the tree's decoder reads from the bits of its window
abbrev pub Finds : {S : Type 0} → Tree S → List Bool → Found S → Type 0
Finds t window f = (path_decoder t).reads 0 window ≡ found_prefix f

-- and so does each of these entries
abbrev pub FindsAll : {S : Type 0} → Tree S → List (Found S) → Type 0
FindsAll {S} t found = (k : ℕ) (f : Found S) → slice_get found k ≡ Some f → Finds t (window_word k) f

-- the eight bytes from this one on, which are there, are the number v
pub record IsEight (o : Order) (bytes : List ℕ) (first v : ℕ) : Type 0 where
  pub within : first + 8 ≤ length bytes
  pub word : word o 64 v ≡ bits o (take 8 (drop first bytes))

-- the ten bits from this place on, which are there, are the number v
pub record IsWindow (o : Order) (bytes : List ℕ) (place v : ℕ) : Type 0 where
  pub below : v < 2 ^ 10
  pub within : place + 10 ≤ 8 * length bytes
  pub word : take 10 (drop place (bits o bytes)) ≡ word o 10 v
