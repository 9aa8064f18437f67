-- The room that a writer has.
use Rattle.std.specs.Prelude.{◌≡◌, ℕ, ◌+◌, ◌/◌, ◌≤◌, List, [], ◌∷◌, length, Some, Ok, ⊤}
use Rattle.bitstream_order.specs.Reference.{capacity_of}
use Rattle.bitstream_count.specs.Codec.{Encoder}
use Rattle.bitstream_stream.specs.Writing.Carries.{WriterState}
use Rattle.bitstream_stream.specs.Sequence.{accepted_bits}

-- a writer to memory has room for n bits: the bytes that they fill after the queued bits are free
pub record HasRoom (s : WriterState) (n : ℕ) : Type 0 where
  pub held : List ℕ
  pub most : ℕ
  pub told : s.port.bytes ≡ Some held
  pub capacity : capacity_of s.port.references ≡ Some most
  pub room : length held + (s.queued + n) / 8 ≤ most

-- calls that are accepted, made one after another from a length on
abbrev pub AllAccepted : List Encoder → ℕ → Type 0
AllAccepted [] len = ⊤
AllAccepted (encoder ∷ encoders) len =
    (encoder len ≡ Ok (accepted_bits (encoder len))) × AllAccepted encoders (len + length (accepted_bits (encoder len)))
