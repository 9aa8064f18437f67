-- Made by `./format` from formats/wav_format.fields: edit that file and make this one anew.
-- A written `WavFormat` is read back, and its number of bits.
use Rattle.bitstream_formats.specs.WavFormat.{wav_format_decoder, wav_format_writes, wav_format_size, wav_format_format, wav_format_bits, Fits}
use Rattle.bitstream_formats.specs.declared.wav_format.WavFormat.{WavFormat}
use Rattle.std.proofs.Common.{◌≡◌, ◌++◌, ◌∷◌, [], refl}
use Rattle.bitstream_io.proofs.CallerLemmas.{RoundTrip, Packs}
use Rattle.bitstream_io.specs.Callers.{Order, Low, align, write_sequence}

-- a written value is read back
pub wav_format_goes : (o : Order) (value : WavFormat) → Fits value
    → RoundTrip (wav_format_decoder o) (wav_format_writes o value) value
wav_format_goes = wav_format_format.round_trip

-- each write is accepted, and the value's size is the number of bits written
pub wav_format_packs : (o : Order) (value : WavFormat) → Fits value
    → Packs (wav_format_writes o value) (wav_format_size o value)
wav_format_packs = wav_format_format.packs

-- the bits, of which a search is to see no part
pub told : (value : WavFormat)
    → write_sequence (wav_format_writes Low value ++ align ∷ []) 0 ≡ wav_format_bits value
unfolding wav_format_bits
told value = refl
