-- A header.
use Rattle.std.specs.Prelude.{List, [], ◌∷◌}
use Rattle.bitstream_io.specs.Callers.{Decoder, Encoder, pure, truth_decoder, truth, unsigned_decoder, ◌>>=◌, Order, unsigned}
use Rattle.bench_parsers.specs.declared.header.Header.{Header}

-- the reads of a header, in order
abbrev pub header_decoder : Order → Decoder Header
header_decoder o = do
  size ← unsigned_decoder o 16 13
  kind ← unsigned_decoder o 8 3
  last ← truth_decoder 1
  time ← unsigned_decoder o 16 15
  pure (record { size = size; kind = kind; last = last; time = time })

-- the writes of a header, in order
abbrev pub header_writes : Order → Header → List Encoder
header_writes o header = unsigned o 16 13 header.size ∷ unsigned o 8 3 header.kind ∷ truth 1 header.last ∷ unsigned o 16 15 header.time ∷ []
