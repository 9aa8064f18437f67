-- Blocks of bytes, as in GIF: each is written after its size in a byte, and an empty block ends them.
use Rattle.std.specs.Prelude.{◌≡◌, ℕ, zero, suc, ◌+◌, ◌*◌, ◌<◌, ◌==◌, if◌then◌else◌, List, [], ◌∷◌, ◌++◌, length, flat_map}
use Rattle.std.specs.List.{All}
use Rattle.bitstream_count.specs.declared.error.Error.TheVariants.{RunTooLong}
use Rattle.bitstream_count.specs.Codec.{fail, stores}
use Rattle.bitstream_io.specs.Callers.{Decoder, Encoder, Order, and_then, pure, buffer, unsigned, unsigned_decoder, vec_decoder}
use Rattle.bitstream_io.specs.Loop.{parts_size}

-- Blocks up to the first empty one, after those `found`. If none of the first n is empty, the error is `RunTooLong`. Each
-- block is stored once it is read.
unfoldable pub blocks_from : Order → ℕ → List (List ℕ) → Decoder (List (List ℕ))
blocks_from o zero found = fail RunTooLong
blocks_from o (suc n) found = and_then (unsigned_decoder o 64 8) (λ size.
    if size == 0 then pure found
    else and_then (vec_decoder o size) (λ bytes. and_then (stores (found ++ bytes ∷ [])) (λ more. blocks_from o n more)))

-- the reads of blocks up to an empty one, which is among the first 2^32
abbrev pub blocks_decoder : Order → Decoder (List (List ℕ))
blocks_decoder o = blocks_from o 4294967296 []

-- the size that is written before a block: for an empty one a number that does not fit 8 bits, so its write fails
abbrev pub block_size : ℕ → ℕ
block_size count = if count == 0 then 256 else count

-- the writes of a block
abbrev pub block_writes : Order → List ℕ → List Encoder
block_writes o bytes = unsigned o 64 8 (block_size (length bytes)) ∷ buffer o bytes ∷ []

-- the writes of blocks, and of an empty one after them
abbrev pub blocks_writes : Order → List (List ℕ) → List Encoder
blocks_writes o blocks = flat_map (block_writes o) blocks ++ unsigned o 64 8 0 ∷ []

-- the number of bits of blocks and of the empty one
abbrev pub blocks_size : List (List ℕ) → ℕ
blocks_size blocks = parts_size (λ bytes. 8 + 8 * length bytes) blocks + 8

-- a block that can be written: not empty, and of fewer than 256 bytes
pub record IsBlock (bytes : List ℕ) : Type 0 where
  pub some : 0 < length bytes
  pub few : length bytes < 256
  pub fits : All (λ b. b < 256) bytes
