-- Made by `./format` from formats/flac_info.fields: edit that file and make this one anew.
-- A written `FlacInfo` is read back, and its number of bits.
use Rattle.media_messages.specs.FlacInfo.{flac_info_decoder, flac_info_writes, flac_info_size, flac_info_format, flac_info_bits, Fits}
use Rattle.media_messages.specs.declared.flac_info.FlacInfo.{FlacInfo}
use Rattle.std.proofs.Common.{◌≡◌, ◌++◌, ◌∷◌, [], refl}
use Rattle.bitstream_io.proofs.CallerLemmas.{RoundTrip, Packs}
use Rattle.bitstream_io.specs.Callers.{Order, High, align, write_sequence}

-- a written value is read back
pub flac_info_goes : (o : Order) (value : FlacInfo) → Fits value
    → RoundTrip (flac_info_decoder o) (flac_info_writes o value) value
flac_info_goes = flac_info_format.round_trip

-- each write is accepted, and the value's size is the number of bits written
pub flac_info_packs : (o : Order) (value : FlacInfo) → Fits value
    → Packs (flac_info_writes o value) (flac_info_size o value)
flac_info_packs = flac_info_format.packs

-- the bits, of which a search is to see no part
pub told : (value : FlacInfo)
    → write_sequence (flac_info_writes High value ++ align ∷ []) 0 ≡ flac_info_bits value
unfolding flac_info_bits
told value = refl
