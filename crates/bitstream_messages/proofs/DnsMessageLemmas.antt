-- Made by `./format` from formats/dns_message.fields: edit that file and make this one anew.
-- A written `DnsMessage` is read back, and its number of bits.
use Rattle.bitstream_messages.specs.DnsMessage.{dns_message_decoder, dns_message_writes, dns_message_size, dns_message_format, dns_message_bits, Fits}
use Rattle.bitstream_messages.specs.declared.dns_message.DnsMessage.{DnsMessage}
use Rattle.std.proofs.Common.{◌≡◌, ◌++◌, ◌∷◌, [], Ok, refl}
use Rattle.bitstream_io.proofs.CallerLemmas.{RoundTrip, Packs}
use Rattle.bitstream_io.specs.Callers.{Order, High, align, write_sequence}

-- a written value is read back
pub dns_message_goes : (o : Order) (value : DnsMessage) → Fits value
    → RoundTrip (dns_message_decoder o) (dns_message_writes o value) (Ok value)
dns_message_goes = dns_message_format.round_trip

-- each write is accepted, and the value's size is the number of bits written
pub dns_message_packs : (o : Order) (value : DnsMessage) → Fits value
    → Packs (dns_message_writes o value) (dns_message_size o value)
dns_message_packs = dns_message_format.packs

-- the bits, of which a search is to see no part
pub told : (value : DnsMessage)
    → write_sequence (dns_message_writes High value ++ align ∷ []) 0 ≡ dns_message_bits value
unfolding dns_message_bits
told value = refl
