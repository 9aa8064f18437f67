-- Made by `./format` from formats/tcp_header.fields: edit that file and make this one anew.
-- A written `TcpHeader` is read back, and its number of bits.
use Rattle.protocols.specs.TcpHeader.{tcp_header_decoder, tcp_header_writes, tcp_header_size, tcp_header_format, tcp_header_bits, Fits}
use Rattle.protocols.specs.declared.tcp_header.TcpHeader.{TcpHeader}
use Rattle.std.proofs.Common.{◌≡◌, ◌++◌, ◌∷◌, [], ℕ, refl}
use Rattle.bitstream_io.proofs.CallerLemmas.{RoundTrip, Packs}
use Rattle.bitstream_io.specs.Callers.{Order, High, align, write_sequence, AllAccepted}

-- a written value is read back
pub tcp_header_goes : (o : Order) (value : TcpHeader) → Fits value
    → RoundTrip (tcp_header_decoder o) (tcp_header_writes o value) value
tcp_header_goes = tcp_header_format.round_trip

-- each write is accepted, and the value's size is the number of bits written
pub tcp_header_packs : (o : Order) (value : TcpHeader) → Fits value
    → Packs (tcp_header_writes o value) (tcp_header_size o value)
tcp_header_packs = tcp_header_format.packs

-- each field fits if each write is accepted
pub tcp_header_fits : (o : Order) (value : TcpHeader) (at : ℕ) → AllAccepted (tcp_header_writes o value) at → Fits value
tcp_header_fits o value at = tcp_header_format.accepted o value at tt

-- the bits, of which a search is to see no part
pub told : (value : TcpHeader)
    → write_sequence (tcp_header_writes High value ++ align ∷ []) 0 ≡ tcp_header_bits value
unfolding tcp_header_bits
told value = refl
