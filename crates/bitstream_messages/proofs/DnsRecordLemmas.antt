-- Made by `./format` from formats/dns_record.fields: edit that file and make this one anew.
-- A written `DnsRecord` is read back, and its number of bits.
use Rattle.bitstream_messages.specs.DnsRecord.{dns_record_decoder, dns_record_writes, dns_record_size, dns_record_format, dns_record_bits, Fits}
use Rattle.bitstream_messages.specs.declared.dns_record.DnsRecord.{DnsRecord}
use Rattle.std.proofs.Common.{◌≡◌, ◌++◌, ◌∷◌, [], Ok, refl}
use Rattle.bitstream_io.proofs.CallerLemmas.{RoundTrip, Packs}
use Rattle.bitstream_io.specs.Callers.{Order, High, align, write_sequence}

-- a written value is read back
pub dns_record_goes : (o : Order) (value : DnsRecord) → Fits value
    → RoundTrip (dns_record_decoder o) (dns_record_writes o value) (Ok value)
dns_record_goes = dns_record_format.round_trip

-- each write is accepted, and the value's size is the number of bits written
pub dns_record_packs : (o : Order) (value : DnsRecord) → Fits value
    → Packs (dns_record_writes o value) (dns_record_size o value)
dns_record_packs = dns_record_format.packs

-- the bits, of which a search is to see no part
pub told : (value : DnsRecord)
    → write_sequence (dns_record_writes High value ++ align ∷ []) 0 ≡ dns_record_bits value
unfolding dns_record_bits
told value = refl
