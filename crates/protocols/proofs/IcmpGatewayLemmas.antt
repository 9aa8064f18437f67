-- Made by `./format` from formats/icmp_gateway.fields: edit that file and make this one anew.
-- A written `IcmpGateway` is read back, and its number of bits.
use Rattle.protocols.specs.IcmpGateway.{icmp_gateway_decoder, icmp_gateway_writes, icmp_gateway_size, icmp_gateway_format, icmp_gateway_bits, Fits}
use Rattle.protocols.specs.declared.icmp_gateway.IcmpGateway.{IcmpGateway}
use Rattle.std.proofs.Common.{◌≡◌, ◌++◌, ◌∷◌, [], refl}
use Rattle.bitstream_io.proofs.CallerLemmas.{RoundTrip, Packs}
use Rattle.bitstream_io.specs.Callers.{Order, High, align, write_sequence}

-- a written value is read back
pub icmp_gateway_goes : (o : Order) (value : IcmpGateway) → Fits value
    → RoundTrip (icmp_gateway_decoder o) (icmp_gateway_writes o value) value
icmp_gateway_goes = icmp_gateway_format.round_trip

-- each write is accepted, and the value's size is the number of bits written
pub icmp_gateway_packs : (o : Order) (value : IcmpGateway) → Fits value
    → Packs (icmp_gateway_writes o value) (icmp_gateway_size o value)
icmp_gateway_packs = icmp_gateway_format.packs

-- the bits, of which a search is to see no part
pub told : (value : IcmpGateway)
    → write_sequence (icmp_gateway_writes High value ++ align ∷ []) 0 ≡ icmp_gateway_bits value
unfolding icmp_gateway_bits
told value = refl
