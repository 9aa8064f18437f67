-- Made by `./format` from formats/stream_info.fields: edit that file and make this one anew.
-- A written `StreamInfo` is read back, and its number of bits.
use Rattle.flac_codec.specs.StreamInfo.{stream_info_decoder, stream_info_writes, stream_info_size, stream_info_format, stream_info_bits, Fits}
use Rattle.flac_codec.specs.declared.stream_info.StreamInfo.{StreamInfo}
use Rattle.std.proofs.Common.{◌≡◌, ◌++◌, ◌∷◌, [], refl}
use Rattle.bitstream_io.proofs.CallerLemmas.{RoundTrip, Packs}
use Rattle.bitstream_io.specs.Callers.{Order, High, align, write_sequence}

-- a written value is read back
pub stream_info_goes : (o : Order) (value : StreamInfo) → Fits value
    → RoundTrip (stream_info_decoder o) (stream_info_writes o value) value
stream_info_goes = stream_info_format.round_trip

-- each write is accepted, and the value's size is the number of bits written
pub stream_info_packs : (o : Order) (value : StreamInfo) → Fits value
    → Packs (stream_info_writes o value) (stream_info_size o value)
stream_info_packs = stream_info_format.packs

-- the bits, of which a search is to see no part
pub told : (value : StreamInfo)
    → write_sequence (stream_info_writes High value ++ align ∷ []) 0 ≡ stream_info_bits value
unfolding stream_info_bits
told value = refl
