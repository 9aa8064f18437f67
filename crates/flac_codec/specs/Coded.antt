-- Coded numbers (RFC 9639, section 9.1.5): coded as UTF-8 codes characters, in one to seven bytes.
use Rattle.std.specs.Prelude.{ℕ, zero, suc, ◌+◌, ◌-◌, ◌*◌, ◌/◌, ◌%◌, ◌^◌, ◌==◌, false, List, [], ◌∷◌, Result, Ok, Err, nat_le, nat_lt, if◌then◌else◌}
use Rattle.bitstream_io.specs.Callers.{Decoder, Encoder, and_then, pure, const_decoder, unary_decoder, unsigned_decoder, ◌>>=◌, Order, plain, unary_word, unsigned, word}
use Rattle.flac_codec.specs.declared.error.FlacError.{FlacError}
use Rattle.flac_codec.specs.declared.error.FlacError.TheVariants.{NotCoded, LongCoded}

-- the number, unless fewer bytes code it
abbrev pub shortest : ℕ → ℕ → Result ℕ FlacError
shortest least number = if nat_lt number least then Err LongCoded else Ok number

-- the bytes after the bits of `number`: each is 0b10 and six bits more
abbrev pub rest_decoder : Order → ℕ → ℕ → ℕ → Decoder (Result ℕ FlacError)
rest_decoder o least zero number = pure (shortest least number)
rest_decoder o least (suc bytes) number =
    and_then (const_decoder o 2 2) (λ follows.
    if follows then and_then (unsigned_decoder o 64 6) (λ six. rest_decoder o least bytes (64 * number + six))
    else pure (Err NotCoded))

-- the least number that needs this number of bytes, from two on
abbrev pub least_of : ℕ → ℕ
least_of bytes = if bytes == 2 then 2 ^ 7 else 2 ^ (5 * bytes - 4)

-- a number of two bytes or more: the first byte begins with a one for each byte
abbrev pub bytes_decoder : Order → ℕ → Decoder (Result ℕ FlacError)
bytes_decoder o bytes = do
  first ← unsigned_decoder o 64 (7 - bytes)
  rest_decoder o (least_of bytes) (bytes - 1) first

-- a number of one byte
abbrev pub byte_decoder : Order → Decoder (Result ℕ FlacError)
byte_decoder o = do
  number ← unsigned_decoder o 64 7
  pure (Ok number)

-- the part after a number of ones and a 0
abbrev pub ones_decoder : Order → ℕ → Decoder (Result ℕ FlacError)
ones_decoder o ones =
    if ones == 0 then byte_decoder o
    else if ones == 1 then pure (Err NotCoded)
    else if nat_le ones 7 then bytes_decoder o ones
    else pure (Err NotCoded)

-- a coded number: a 0 and seven bits, or two to seven bytes
abbrev pub coded_decoder : Order → Decoder (Result ℕ FlacError)
coded_decoder o = do
  ones ← unary_decoder false
  ones_decoder o ones

-- the number of bytes that a number needs
abbrev pub bytes_needed : ℕ → ℕ
bytes_needed number =
    if nat_lt number (2 ^ 11) then 2
    else if nat_lt number (2 ^ 16) then 3
    else if nat_lt number (2 ^ 21) then 4
    else if nat_lt number (2 ^ 26) then 5
    else if nat_lt number (2 ^ 31) then 6
    else 7

-- the writes of the last bytes of a number
abbrev pub rest_writes : Order → ℕ → ℕ → List Encoder
rest_writes o zero number = []
rest_writes o (suc bytes) number =
    plain (word o 2 2) ∷ unsigned o 64 6 (number / 64 ^ bytes % 64) ∷ rest_writes o bytes number

-- the writes of a number in two bytes or more
abbrev pub bytes_writes : Order → ℕ → ℕ → List Encoder
bytes_writes o bytes number =
    unary_word false bytes ∷ unsigned o 64 (7 - bytes) (number / 64 ^ (bytes - 1)) ∷ rest_writes o (bytes - 1) number

-- the writes of a number below 2^36
abbrev pub coded_writes : Order → ℕ → List Encoder
coded_writes o number =
    if nat_lt number (2 ^ 7) then unary_word false 0 ∷ unsigned o 64 7 number ∷ []
    else bytes_writes o (bytes_needed number) number
