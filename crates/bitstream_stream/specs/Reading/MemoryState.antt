-- The laws of the state of a reader of bytes in memory. These are lemmas: the source of bits that uses them has
-- its laws in it.
use Rattle.std.proofs.Common.{◌≡◌, ℕ, ◌+◌, ◌*◌, ◌<◌, ◌≤◌, Bool, true, false, List, length, take, refl, arith, inl, inr, ◌⊎◌}
use Rattle.std.proofs.lemmas.List.{length-take-le, length-drop}
use Rattle.bitstream_number.specs.Word.{Order, bits}
use Rattle.bitstream_number.proofs.WordLemmas.{length-bits}
use Rattle.bitstream_order.specs.Refusal.{Refusal}
use Rattle.bitstream_stream.specs.Reading.Reads.{Demands, QueuesRest, Empties}
use Rattle.bitstream_stream.specs.Reading.Memory.{held, rest_bits, memory_state}

pub state_demands : (o : Order) (all bytes : List ℕ) (bit : ℕ) (failed : Bool) (refusals : List Refusal)
    → Demands (memory_state o all bytes bit failed refusals)
state_demands o all bytes bit failed refusals = refl

pub none_or_some : (n : ℕ) → (n ≡ 0) ⊎ (0 < n)
none_or_some n = grind arith

-- a byte with some bits taken exists
pub held_there : (bytes : List ℕ) (bit : ℕ) → bit < 8 → (0 < bit → 1 ≤ length bytes) → held bit ≤ length bytes
held_there bytes bit few some = elim (none_or_some bit) [
  | inl none ↦ omega arith
  | inr more ↦ let h = some more in omega arith
]

-- the number of bits left of the first byte
pub rest_length : (o : Order) (bytes : List ℕ) (bit : ℕ) → bit < 8 → (0 < bit → 1 ≤ length bytes)
    → length (rest_bits o (take (held bit) bytes) bit) + bit ≡ 8 * held bit
rest_length o bytes bit few some =
    let enough = held_there bytes bit few some in
    let size : length (take (held bit) bytes) ≡ held bit = length-take-le (held bit) bytes enough in
    omega (arith, length-drop bit (bits o (take (held bit) bytes)), length-bits o (take (held bit) bytes), size)

pub state_holds : (o : Order) (all bytes : List ℕ) (bit : ℕ) (failed : Bool) (refusals : List Refusal) → bit < 8
    → (0 < bit → 1 ≤ length bytes) → QueuesRest (memory_state o all bytes bit failed refusals)
state_holds o all bytes bit true refusals few some fine = cc
state_holds o all bytes bit false refusals few some fine =
    let left = rest_length o bytes bit few some in
    omega (arith, left)

pub state_empties : (o : Order) (all bytes : List ℕ) (bit : ℕ) (failed : Bool) (refusals : List Refusal)
    → Empties (memory_state o all bytes bit failed refusals)
state_empties o all bytes bit true refusals failed = refl
state_empties o all bytes bit false refusals failed = cc
