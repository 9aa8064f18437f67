-- Made by `./format` from formats/dns_label.fields: edit that file and make this one anew.
-- A written `DnsLabel` is read back, and its number of bits.
use Rattle.bitstream_messages.specs.DnsLabel.{dns_label_decoder, dns_label_writes, dns_label_size, dns_label_format, dns_label_bits, Fits}
use Rattle.bitstream_messages.specs.declared.dns_label.DnsLabel.{DnsLabel}
use Rattle.std.proofs.Common.{◌≡◌, ◌++◌, ◌∷◌, [], Ok, refl}
use Rattle.bitstream_io.proofs.CallerLemmas.{RoundTrip, Packs}
use Rattle.bitstream_io.specs.Callers.{Order, High, align, write_sequence}

-- a written value is read back
pub dns_label_goes : (o : Order) (value : DnsLabel) → Fits value
    → RoundTrip (dns_label_decoder o) (dns_label_writes o value) (Ok value)
dns_label_goes = dns_label_format.round_trip

-- each write is accepted, and the value's size is the number of bits written
pub dns_label_packs : (o : Order) (value : DnsLabel) → Fits value
    → Packs (dns_label_writes o value) (dns_label_size o value)
dns_label_packs = dns_label_format.packs

-- the bits, of which a search is to see no part
pub told : (value : DnsLabel)
    → write_sequence (dns_label_writes High value ++ align ∷ []) 0 ≡ dns_label_bits value
unfolding dns_label_bits
told value = refl
