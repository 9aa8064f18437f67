-- Bits that are shifted after a queue of bits.
use Rattle.std.specs.Prelude.{◌≡◌, ℕ, ◌++◌, List, Bool}
use Rattle.bitstream_number.specs.Word.{Order, word}

-- a queue and then the bits x are the bits y and then the bits left over; their number
-- is the number of queued bits
abbrev pub Shifts : Order → ℕ → ℕ → List Bool → List Bool → ℕ → Type 0
Shifts o queued queue x y left = word o queued queue ++ x ≡ y ++ word o queued left
