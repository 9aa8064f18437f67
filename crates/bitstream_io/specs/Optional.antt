-- A part that is there or not.
use Rattle.std.specs.Prelude.{ℕ, Bool, List, [], Option, Some, None, Result, Ok, if◌then◌else◌}
use Rattle.bitstream_count.specs.Codec.{Decoder, Encoder, and_then, pure}
use Rattle.bitstream_value.specs.Own.{part_then}

-- the read of an optional value, which is there or not
abbrev pub optional : {A : Type 0} → Bool → Decoder A → Decoder (Option A)
optional there decoder = if there then and_then decoder (λ value. pure (Some value)) else pure None

-- the read of an optional value with errors of its own
abbrev pub own_optional : {A E : Type 0} → Bool → Decoder (Result A E) → Decoder (Result (Option A) E)
own_optional there decoder = if there then and_then decoder (part_then (λ value. pure (Ok (Some value)))) else pure (Ok None)

-- the writes of an optional value
abbrev pub optional_writes : {A : Type 0} → (A → List Encoder) → Option A → List Encoder
optional_writes writes None = []
optional_writes writes (Some value) = writes value

-- the number of its bits
abbrev pub optional_size : {A : Type 0} → (A → ℕ) → Option A → ℕ
optional_size size None = 0
optional_size size (Some value) = size value
