-- Made by `./format` from formats/block_header.fields: edit that file and make this one anew.
-- A written `BlockHeader` is read back, and its number of bits.
use Rattle.bitstream_callers.specs.BlockHeader.{block_header_decoder, block_header_writes, block_header_size, block_header_format, block_header_bits, Fits}
use Rattle.bitstream_callers.specs.declared.block_header.BlockHeader.{BlockHeader}
use Rattle.std.proofs.Common.{◌≡◌, ◌++◌, ◌∷◌, [], ℕ, refl}
use Rattle.bitstream_io.proofs.CallerLemmas.{RoundTrip, Packs}
use Rattle.bitstream_io.specs.Callers.{Order, High, align, write_sequence, AllAccepted}

-- a written value is read back
pub block_header_goes : (o : Order) (value : BlockHeader) → Fits value
    → RoundTrip (block_header_decoder o) (block_header_writes o value) value
block_header_goes = block_header_format.round_trip

-- each write is accepted, and the value's size is the number of bits written
pub block_header_packs : (o : Order) (value : BlockHeader) → Fits value
    → Packs (block_header_writes o value) (block_header_size o value)
block_header_packs = block_header_format.packs

-- each field fits if each write is accepted
pub block_header_fits : (o : Order) (value : BlockHeader) (at : ℕ) → AllAccepted (block_header_writes o value) at → Fits
    value
block_header_fits o value at = block_header_format.accepted o value at tt

-- the bits, of which a search is to see no part
pub told : (value : BlockHeader)
    → write_sequence (block_header_writes High value ++ align ∷ []) 0 ≡ block_header_bits value
unfolding block_header_bits
told value = refl
