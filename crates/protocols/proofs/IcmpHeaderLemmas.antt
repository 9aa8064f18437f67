-- Made by `./format` from formats/icmp_header.fields: edit that file and make this one anew.
-- A written `IcmpHeader` is read back, and its number of bits.
use Rattle.protocols.specs.IcmpHeader.{icmp_header_decoder, icmp_header_writes, icmp_header_size, icmp_header_format, icmp_header_bits, Fits}
use Rattle.protocols.specs.declared.icmp_header.IcmpHeader.{IcmpHeader}
use Rattle.std.proofs.Common.{◌≡◌, ◌++◌, ◌∷◌, [], refl}
use Rattle.bitstream_io.proofs.CallerLemmas.{RoundTrip, Packs}
use Rattle.bitstream_io.specs.Callers.{Order, High, align, write_sequence}

-- a written value is read back
pub icmp_header_goes : (o : Order) (value : IcmpHeader) → Fits value
    → RoundTrip (icmp_header_decoder o) (icmp_header_writes o value) value
icmp_header_goes = icmp_header_format.round_trip

-- each write is accepted, and the value's size is the number of bits written
pub icmp_header_packs : (o : Order) (value : IcmpHeader) → Fits value
    → Packs (icmp_header_writes o value) (icmp_header_size o value)
icmp_header_packs = icmp_header_format.packs

-- the bits, of which a search is to see no part
pub told : (value : IcmpHeader)
    → write_sequence (icmp_header_writes High value ++ align ∷ []) 0 ≡ icmp_header_bits value
unfolding icmp_header_bits
told value = refl
