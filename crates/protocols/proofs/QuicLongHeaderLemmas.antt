-- Made by `./format` from formats/quic_long_header.fields: edit that file and make this one anew.
-- A written `QuicLongHeader` is read back, and its number of bits.
use Rattle.protocols.specs.QuicLongHeader.{quic_long_header_decoder, quic_long_header_writes, quic_long_header_size, quic_long_header_format, quic_long_header_bits, Fits}
use Rattle.protocols.specs.declared.quic_long_header.QuicLongHeader.{QuicLongHeader}
use Rattle.std.proofs.Common.{◌≡◌, ◌++◌, ◌∷◌, [], Ok, refl}
use Rattle.bitstream_io.proofs.CallerLemmas.{RoundTrip, Packs}
use Rattle.bitstream_io.specs.Callers.{Order, High, align, write_sequence}

-- a written value is read back
pub quic_long_header_goes : (o : Order) (value : QuicLongHeader) → Fits value
    → RoundTrip (quic_long_header_decoder o) (quic_long_header_writes o value) (Ok value)
quic_long_header_goes = quic_long_header_format.round_trip

-- each write is accepted, and the value's size is the number of bits written
pub quic_long_header_packs : (o : Order) (value : QuicLongHeader) → Fits value
    → Packs (quic_long_header_writes o value) (quic_long_header_size o value)
quic_long_header_packs = quic_long_header_format.packs

-- the bits, of which a search is to see no part
pub told : (value : QuicLongHeader)
    → write_sequence (quic_long_header_writes High value ++ align ∷ []) 0 ≡ quic_long_header_bits value
unfolding quic_long_header_bits
told value = refl
