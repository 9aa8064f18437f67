-- Made by `./format` from formats/dns_name.fields: edit that file and make this one anew.
-- A written `DnsName` is read back, and its number of bits.
use Rattle.bitstream_messages.specs.DnsName.{dns_name_decoder, dns_name_writes, dns_name_size, dns_name_format, dns_name_bits, Fits}
use Rattle.bitstream_messages.specs.declared.dns_name.DnsName.{DnsName}
use Rattle.std.proofs.Common.{◌≡◌, ◌++◌, ◌∷◌, [], Ok, refl}
use Rattle.bitstream_io.proofs.CallerLemmas.{RoundTrip, Packs}
use Rattle.bitstream_io.specs.Callers.{Order, High, align, write_sequence}

-- a written value is read back
pub dns_name_goes : (o : Order) (value : DnsName) → Fits value
    → RoundTrip (dns_name_decoder o) (dns_name_writes o value) (Ok value)
dns_name_goes = dns_name_format.round_trip

-- each write is accepted, and the value's size is the number of bits written
pub dns_name_packs : (o : Order) (value : DnsName) → Fits value
    → Packs (dns_name_writes o value) (dns_name_size o value)
dns_name_packs = dns_name_format.packs

-- the bits, of which a search is to see no part
pub told : (value : DnsName)
    → write_sequence (dns_name_writes High value ++ align ∷ []) 0 ≡ dns_name_bits value
unfolding dns_name_bits
told value = refl
