-- Calls that need at most a known number of bits.
use Rattle.std.specs.Prelude.{◌≡◌, ℕ, ◌≤◌, Bool, List, length, Ok}
use Rattle.bitstream_count.specs.Codec.{Decoder, Done}

-- a call that takes n bits, whatever they are and at any place, and returns a value
abbrev pub IsDoneBy : {A : Type 0} → ℕ → Decoder A → Type 0
IsDoneBy {A} n decoder = (p : ℕ) (bits : List Bool) → n ≤ length bits
    → (value : A) × (decoder.reads p bits ≡ Done n (Ok value))
