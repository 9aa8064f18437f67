-- Made by `./format` from formats/flac_block.fields: edit that file and make this one anew.
-- A written `FlacBlock` is read back, and its number of bits.
use Rattle.media_messages.specs.FlacBlock.{flac_block_decoder, flac_block_writes, flac_block_size, flac_block_format, flac_block_bits, Fits}
use Rattle.media_messages.specs.declared.flac_block.FlacBlock.{FlacBlock}
use Rattle.std.proofs.Common.{◌≡◌, ◌++◌, ◌∷◌, [], Ok, refl}
use Rattle.bitstream_io.proofs.CallerLemmas.{RoundTrip, Packs}
use Rattle.bitstream_io.specs.Callers.{Order, High, align, write_sequence}

-- a written value is read back
pub flac_block_goes : (o : Order) (value : FlacBlock) → Fits value
    → RoundTrip (flac_block_decoder o) (flac_block_writes o value) (Ok value)
flac_block_goes = flac_block_format.round_trip

-- each write is accepted, and the value's size is the number of bits written
pub flac_block_packs : (o : Order) (value : FlacBlock) → Fits value
    → Packs (flac_block_writes o value) (flac_block_size o value)
flac_block_packs = flac_block_format.packs

-- the bits, of which a search is to see no part
pub told : (value : FlacBlock)
    → write_sequence (flac_block_writes High value ++ align ∷ []) 0 ≡ flac_block_bits value
unfolding flac_block_bits
told value = refl
