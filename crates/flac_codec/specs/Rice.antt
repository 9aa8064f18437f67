-- Rice numbers of FLAC.
use Rattle.std.specs.Prelude.{ℕ, ℤ, ◌+◌, ◌*◌, ◌/◌, ◌%◌, ◌^◌, true, List, [], ◌∷◌}
use Rattle.bitstream_io.specs.Callers.{Decoder, Encoder, pure, unary_decoder, unsigned_decoder, ◌>>=◌, Order, unary_word, unsigned}
use Rattle.bitstream_io.specs.Word.{zig, zag}

-- a number by its place in the order 0, -1, 1, -2, 2 and so on: the high part of the place in unary, and then its k low bits
abbrev pub rice_decoder : Order → ℕ → Decoder ℤ
rice_decoder o k = do
  high ← unary_decoder true
  low ← unsigned_decoder o 64 k
  pure (zag (2 ^ k * high + low))

-- the writes of a Rice number, in order
abbrev pub rice_writes : Order → ℕ → ℤ → List Encoder
rice_writes o k x = unary_word true (zig x / 2 ^ k) ∷ unsigned o 64 k (zig x % 2 ^ k) ∷ []
