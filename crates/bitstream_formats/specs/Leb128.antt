-- The numbers `leb128()` of AV1.
use Rattle.std.specs.Prelude.{◌≡◌, ℕ, zero, suc, ◌+◌, ◌-◌, ◌*◌, ◌^◌, List, [], ◌∷◌, Result, Ok, Err, nat_le, nat_lt, if◌then◌else◌}
use Rattle.bitstream_io.specs.Callers.{Decoder, Encoder, and_then, pure, Error, unsigned_decoder, Order, vbr}
use Rattle.bitstream_formats.specs.declared.av1.Av1Error.{Av1Error}
use Rattle.bitstream_formats.specs.declared.av1.Av1Error.TheVariants.{Reader, TooLarge}

-- an error of the reader is one of the format's
abbrev pub becomes_av1 : Error → Av1Error → Type 0
becomes_av1 error own = own ≡ Reader error

-- a number below 2^32, or the error
abbrev pub small : ℕ → Result ℕ Av1Error
small value = if nat_le value (2 ^ 32 - 1) then Ok value else Err TooLarge

-- at most `room` bytes after the bytes of `value`: the low seven bits of the first one count `place` times, and
-- if it is 128 or more another byte follows
abbrev pub groups_decoder : Order → ℕ → ℕ → ℕ → Decoder (Result ℕ Av1Error)
groups_decoder o zero place value = pure (Err TooLarge)
groups_decoder o (suc room) place value =
    and_then (unsigned_decoder o 64 8) (λ byte.
    if nat_lt byte 128 then pure (small (value + place * byte))
    else groups_decoder o room (128 * place) (value + place * (byte - 128)))

-- a number below 2^32 in at most eight bytes, also with bytes of zeros at the end
abbrev pub leb128_decoder : Order → Decoder (Result ℕ Av1Error)
leb128_decoder o = groups_decoder o 8 1 0

-- the write of a number, in as few groups as it needs
abbrev pub leb128_writes : Order → ℕ → List Encoder
leb128_writes o value = vbr o 8 value ∷ []
