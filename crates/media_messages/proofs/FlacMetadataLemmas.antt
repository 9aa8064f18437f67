-- Made by `./format` from formats/flac_metadata.fields: edit that file and make this one anew.
-- A written `FlacMetadata` is read back, and its number of bits.
use Rattle.media_messages.specs.FlacMetadata.{flac_metadata_decoder, flac_metadata_writes, flac_metadata_size, flac_metadata_format, flac_metadata_bits, Fits}
use Rattle.media_messages.specs.declared.flac_metadata.FlacMetadata.{FlacMetadata}
use Rattle.std.proofs.Common.{◌≡◌, ◌++◌, ◌∷◌, [], Ok, refl}
use Rattle.bitstream_io.proofs.CallerLemmas.{RoundTrip, Packs}
use Rattle.bitstream_io.specs.Callers.{Order, High, align, write_sequence}

-- a written value is read back
pub flac_metadata_goes : (o : Order) (value : FlacMetadata) → Fits value
    → RoundTrip (flac_metadata_decoder o) (flac_metadata_writes o value) (Ok value)
flac_metadata_goes = flac_metadata_format.round_trip

-- each write is accepted, and the value's size is the number of bits written
pub flac_metadata_packs : (o : Order) (value : FlacMetadata) → Fits value
    → Packs (flac_metadata_writes o value) (flac_metadata_size o value)
flac_metadata_packs = flac_metadata_format.packs

-- the bits, of which a search is to see no part
pub told : (value : FlacMetadata)
    → write_sequence (flac_metadata_writes High value ++ align ∷ []) 0 ≡ flac_metadata_bits value
unfolding flac_metadata_bits
told value = refl
