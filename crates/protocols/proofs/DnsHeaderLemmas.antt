-- Made by `./format` from formats/dns_header.fields: edit that file and make this one anew.
-- A written `DnsHeader` is read back, and its number of bits.
use Rattle.protocols.specs.DnsHeader.{dns_header_decoder, dns_header_writes, dns_header_size, dns_header_format, dns_header_bits, Fits}
use Rattle.protocols.specs.declared.dns_header.DnsHeader.{DnsHeader}
use Rattle.std.proofs.Common.{◌≡◌, ◌++◌, ◌∷◌, [], Ok, refl}
use Rattle.bitstream_io.proofs.CallerLemmas.{RoundTrip, Packs}
use Rattle.bitstream_io.specs.Callers.{Order, High, align, write_sequence}

-- a written value is read back
pub dns_header_goes : (o : Order) (value : DnsHeader) → Fits value
    → RoundTrip (dns_header_decoder o) (dns_header_writes o value) (Ok value)
dns_header_goes = dns_header_format.round_trip

-- each write is accepted, and the value's size is the number of bits written
pub dns_header_packs : (o : Order) (value : DnsHeader) → Fits value
    → Packs (dns_header_writes o value) (dns_header_size o value)
dns_header_packs = dns_header_format.packs

-- the bits, of which a search is to see no part
pub told : (value : DnsHeader)
    → write_sequence (dns_header_writes High value ++ align ∷ []) 0 ≡ dns_header_bits value
unfolding dns_header_bits
told value = refl
