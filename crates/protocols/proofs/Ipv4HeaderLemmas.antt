-- Made by `./format` from formats/ipv4_header.fields: edit that file and make this one anew.
-- A written `Ipv4Header` is read back, and its number of bits.
use Rattle.protocols.specs.Ipv4Header.{ipv4_header_decoder, ipv4_header_writes, ipv4_header_size, ipv4_header_format, ipv4_header_bits, Fits}
use Rattle.protocols.specs.declared.ipv4_header.Ipv4Header.{Ipv4Header}
use Rattle.std.proofs.Common.{◌≡◌, ◌++◌, ◌∷◌, [], Ok, refl}
use Rattle.bitstream_io.proofs.CallerLemmas.{RoundTrip, Packs}
use Rattle.bitstream_io.specs.Callers.{Order, High, align, write_sequence}

-- a written value is read back
pub ipv4_header_goes : (o : Order) (value : Ipv4Header) → Fits value
    → RoundTrip (ipv4_header_decoder o) (ipv4_header_writes o value) (Ok value)
ipv4_header_goes = ipv4_header_format.round_trip

-- each write is accepted, and the value's size is the number of bits written
pub ipv4_header_packs : (o : Order) (value : Ipv4Header) → Fits value
    → Packs (ipv4_header_writes o value) (ipv4_header_size o value)
ipv4_header_packs = ipv4_header_format.packs

-- the bits, of which a search is to see no part
pub told : (value : Ipv4Header)
    → write_sequence (ipv4_header_writes High value ++ align ∷ []) 0 ≡ ipv4_header_bits value
unfolding ipv4_header_bits
told value = refl
