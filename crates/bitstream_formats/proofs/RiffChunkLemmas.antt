-- Made by `./format` from formats/riff_chunk.fields: edit that file and make this one anew.
-- A written `RiffChunk` is read back, and its number of bits.
use Rattle.bitstream_formats.specs.RiffChunk.{riff_chunk_decoder, riff_chunk_writes, riff_chunk_size, riff_chunk_format, riff_chunk_bits, Fits}
use Rattle.bitstream_formats.specs.declared.riff_chunk.RiffChunk.{RiffChunk}
use Rattle.std.proofs.Common.{◌≡◌, ◌++◌, ◌∷◌, [], refl}
use Rattle.bitstream_io.proofs.CallerLemmas.{RoundTrip, Packs}
use Rattle.bitstream_io.specs.Callers.{Order, Low, align, write_sequence}

-- a written value is read back
pub riff_chunk_goes : (o : Order) (value : RiffChunk) → Fits value
    → RoundTrip (riff_chunk_decoder o) (riff_chunk_writes o value) value
riff_chunk_goes = riff_chunk_format.round_trip

-- each write is accepted, and the value's size is the number of bits written
pub riff_chunk_packs : (o : Order) (value : RiffChunk) → Fits value
    → Packs (riff_chunk_writes o value) (riff_chunk_size o value)
riff_chunk_packs = riff_chunk_format.packs

-- the bits, of which a search is to see no part
pub told : (value : RiffChunk)
    → write_sequence (riff_chunk_writes Low value ++ align ∷ []) 0 ≡ riff_chunk_bits value
unfolding riff_chunk_bits
told value = refl
