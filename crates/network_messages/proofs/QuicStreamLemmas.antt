-- Made by `./format` from formats/quic_stream.fields: edit that file and make this one anew.
-- A written `QuicStream` is read back, and its number of bits.
use Rattle.network_messages.specs.QuicStream.{quic_stream_decoder, quic_stream_writes, quic_stream_size, quic_stream_format, quic_stream_bits, Fits}
use Rattle.network_messages.specs.declared.quic_stream.QuicStream.{QuicStream}
use Rattle.std.proofs.Common.{◌≡◌, ◌++◌, ◌∷◌, [], Ok, refl}
use Rattle.bitstream_io.proofs.CallerLemmas.{RoundTrip, Packs}
use Rattle.bitstream_io.specs.Callers.{Order, High, align, write_sequence}

-- a written value is read back
pub quic_stream_goes : (o : Order) (value : QuicStream) → Fits value
    → RoundTrip (quic_stream_decoder o) (quic_stream_writes o value) (Ok value)
quic_stream_goes = quic_stream_format.round_trip

-- each write is accepted, and the value's size is the number of bits written
pub quic_stream_packs : (o : Order) (value : QuicStream) → Fits value
    → Packs (quic_stream_writes o value) (quic_stream_size o value)
quic_stream_packs = quic_stream_format.packs

-- the bits, of which a search is to see no part
pub told : (value : QuicStream)
    → write_sequence (quic_stream_writes High value ++ align ∷ []) 0 ≡ quic_stream_bits value
unfolding quic_stream_bits
told value = refl
