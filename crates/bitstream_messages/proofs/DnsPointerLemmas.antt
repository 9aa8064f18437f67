-- Made by `./format` from formats/dns_pointer.fields: edit that file and make this one anew.
-- A written `DnsPointer` is read back, and its number of bits.
use Rattle.bitstream_messages.specs.DnsPointer.{dns_pointer_decoder, dns_pointer_writes, dns_pointer_size, dns_pointer_format, dns_pointer_bits, Fits}
use Rattle.bitstream_messages.specs.declared.dns_pointer.DnsPointer.{DnsPointer}
use Rattle.std.proofs.Common.{◌≡◌, ◌++◌, ◌∷◌, [], ℕ, refl}
use Rattle.bitstream_io.proofs.CallerLemmas.{RoundTrip, Packs}
use Rattle.bitstream_io.specs.Callers.{Order, High, align, write_sequence, AllAccepted}

-- a written value is read back
pub dns_pointer_goes : (o : Order) (value : DnsPointer) → Fits value
    → RoundTrip (dns_pointer_decoder o) (dns_pointer_writes o value) value
dns_pointer_goes = dns_pointer_format.round_trip

-- each write is accepted, and the value's size is the number of bits written
pub dns_pointer_packs : (o : Order) (value : DnsPointer) → Fits value
    → Packs (dns_pointer_writes o value) (dns_pointer_size o value)
dns_pointer_packs = dns_pointer_format.packs

-- each field fits if each write is accepted
pub dns_pointer_fits : (o : Order) (value : DnsPointer) (at : ℕ) → AllAccepted (dns_pointer_writes o value) at → Fits
    value
dns_pointer_fits o value at = dns_pointer_format.accepted o value at tt

-- the bits, of which a search is to see no part
pub told : (value : DnsPointer)
    → write_sequence (dns_pointer_writes High value ++ align ∷ []) 0 ≡ dns_pointer_bits value
unfolding dns_pointer_bits
told value = refl
