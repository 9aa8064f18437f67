-- Bytes up to a terminator, as `./format` prints them, such as C strings.
use Rattle.std.specs.Prelude.{◌≡◌, ◌≢◌, ℕ, zero, suc, ◌+◌, ◌*◌, ◌<◌, ◌==◌, if◌then◌else◌, List, [], ◌∷◌, ◌++◌, length, flat_map}
use Rattle.std.specs.List.{All}
use Rattle.bitstream_count.specs.declared.error.Error.TheVariants.{RunTooLong}
use Rattle.bitstream_count.specs.Codec.{fail, stores}
use Rattle.bitstream_io.specs.Callers.{Decoder, Encoder, Order, and_then, pure, unsigned, unsigned_decoder}

-- Numbers up to the first `stop`, which is read and not kept, after those `found`. If `stop` is not among the first n, the
-- error is `RunTooLong`. Each number but `stop` is stored once it is read.
unfoldable pub until_from : Decoder ℕ → ℕ → ℕ → List ℕ → Decoder (List ℕ)
until_from decoder stop zero found = fail RunTooLong
until_from decoder stop (suc n) found = and_then decoder (λ x.
    if x == stop then pure found
    else and_then (stores (found ++ x ∷ [])) (λ more. until_from decoder stop n more))

-- the reads of bytes up to the first `stop`, which is among the first 2^32
abbrev pub until_decoder : Order → ℕ → Decoder (List ℕ)
until_decoder o stop = until_from (unsigned_decoder o 8 8) stop 4294967296 []

-- the number that is written for a byte: for `stop` one that does not fit 8 bits, so its write fails
abbrev pub until_item : ℕ → ℕ → ℕ
until_item stop x = if x == stop then 256 else x

-- the writes of a byte
abbrev pub until_word : Order → ℕ → ℕ → List Encoder
until_word o stop x = unsigned o 16 8 (until_item stop x) ∷ []

-- the writes of bytes, and of `stop` after them
abbrev pub until_writes : Order → ℕ → List ℕ → List Encoder
until_writes o stop xs = flat_map (until_word o stop) xs ++ unsigned o 8 8 stop ∷ []

-- the number of bits of bytes and of their terminator
abbrev pub until_size : List ℕ → ℕ
until_size xs = 8 * length xs + 8

-- bytes none of which is the terminator
abbrev pub IsUnended : ℕ → List ℕ → Type 0
IsUnended stop xs = All (λ x. (x < 256) × (x ≢ stop)) xs
