-- The properties of a stream that is written block by block.
use Rattle.std.specs.Prelude.{◌≡◌, ℕ, List, [], drop, Option}
use Rattle.std.specs.Io.KnownBytes.{append_known}
use Rattle.bitstream_order.specs.Streams.{OutputStream}
use Rattle.bitstream_order.specs.Streaming.Growing.{growing_bytes}
use Rattle.bitstream_io.specs.declared.blockwise.Blockwise.{Blockwise}

-- the stream
abbrev pub blockwise_writer : {W A : Type 0} → Blockwise W A → W
blockwise_writer b = b.writer

-- the bytes of the block, sent or not
abbrev pub block_bytes : {W A : Type 0} → Blockwise W A → List ℕ
block_bytes b = growing_bytes b.held

-- the bytes that are held
abbrev pub held_bytes : {W A : Type 0} → Blockwise W A → List ℕ
held_bytes b = drop b.sent (block_bytes b)

-- the bytes of the stream, if they are known, and then the held ones
abbrev pub blockwise_contents : {W A : Type 0} → (W → Option (List ℕ)) → Blockwise W A → Option (List ℕ)
blockwise_contents known b = append_known (known b.writer) (held_bytes b)

-- Any request may fail. After a flush that succeeded, nothing is held.
abbrev pub blockwise_stream : {W A : Type 0} → (W → Option (List ℕ)) → OutputStream (Blockwise W A)
blockwise_stream known = record {
  contents = blockwise_contents known;
  references = λ _. [];
  refuses = λ _ _ _ _. Unit {0};
  flushes = λ _ after. held_bytes after ≡ [];
}
