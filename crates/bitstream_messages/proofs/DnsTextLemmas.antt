-- Made by `./format` from formats/dns_text.fields: edit that file and make this one anew.
-- A written `DnsText` is read back, and its number of bits.
use Rattle.bitstream_messages.specs.DnsText.{dns_text_decoder, dns_text_writes, dns_text_size, dns_text_format, dns_text_bits, Fits}
use Rattle.bitstream_messages.specs.declared.dns_text.DnsText.{DnsText}
use Rattle.std.proofs.Common.{◌≡◌, ◌++◌, ◌∷◌, [], Ok, refl}
use Rattle.bitstream_io.proofs.CallerLemmas.{RoundTrip, Packs}
use Rattle.bitstream_io.specs.Callers.{Order, High, align, write_sequence}

-- a written value is read back
pub dns_text_goes : (o : Order) (value : DnsText) → Fits value
    → RoundTrip (dns_text_decoder o) (dns_text_writes o value) (Ok value)
dns_text_goes = dns_text_format.round_trip

-- each write is accepted, and the value's size is the number of bits written
pub dns_text_packs : (o : Order) (value : DnsText) → Fits value
    → Packs (dns_text_writes o value) (dns_text_size o value)
dns_text_packs = dns_text_format.packs

-- the bits, of which a search is to see no part
pub told : (value : DnsText)
    → write_sequence (dns_text_writes High value ++ align ∷ []) 0 ≡ dns_text_bits value
unfolding dns_text_bits
told value = refl
