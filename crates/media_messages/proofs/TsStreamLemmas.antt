-- Made by `./format` from formats/ts_stream.fields: edit that file and make this one anew.
-- A written `TsStream` is read back, and its number of bits.
use Rattle.media_messages.specs.TsStream.{ts_stream_decoder, ts_stream_writes, ts_stream_size, ts_stream_format, ts_stream_bits, Fits}
use Rattle.media_messages.specs.declared.ts_stream.TsStream.{TsStream}
use Rattle.std.proofs.Common.{◌≡◌, ◌++◌, ◌∷◌, [], Ok, refl}
use Rattle.bitstream_io.proofs.CallerLemmas.{RoundTrip, Packs}
use Rattle.bitstream_io.specs.Callers.{Order, High, align, write_sequence}

-- a written value is read back
pub ts_stream_goes : (o : Order) (value : TsStream) → Fits value
    → RoundTrip (ts_stream_decoder o) (ts_stream_writes o value) (Ok value)
ts_stream_goes = ts_stream_format.round_trip

-- each write is accepted, and the value's size is the number of bits written
pub ts_stream_packs : (o : Order) (value : TsStream) → Fits value
    → Packs (ts_stream_writes o value) (ts_stream_size o value)
ts_stream_packs = ts_stream_format.packs

-- the bits, of which a search is to see no part
pub told : (value : TsStream)
    → write_sequence (ts_stream_writes High value ++ align ∷ []) 0 ≡ ts_stream_bits value
unfolding ts_stream_bits
told value = refl
