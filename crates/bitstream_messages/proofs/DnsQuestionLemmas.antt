-- Made by `./format` from formats/dns_question.fields: edit that file and make this one anew.
-- A written `DnsQuestion` is read back, and its number of bits.
use Rattle.bitstream_messages.specs.DnsQuestion.{dns_question_decoder, dns_question_writes, dns_question_size, dns_question_format, dns_question_bits, Fits}
use Rattle.bitstream_messages.specs.declared.dns_question.DnsQuestion.{DnsQuestion}
use Rattle.std.proofs.Common.{◌≡◌, ◌++◌, ◌∷◌, [], Ok, refl}
use Rattle.bitstream_io.proofs.CallerLemmas.{RoundTrip, Packs}
use Rattle.bitstream_io.specs.Callers.{Order, High, align, write_sequence}

-- a written value is read back
pub dns_question_goes : (o : Order) (value : DnsQuestion) → Fits value
    → RoundTrip (dns_question_decoder o) (dns_question_writes o value) (Ok value)
dns_question_goes = dns_question_format.round_trip

-- each write is accepted, and the value's size is the number of bits written
pub dns_question_packs : (o : Order) (value : DnsQuestion) → Fits value
    → Packs (dns_question_writes o value) (dns_question_size o value)
dns_question_packs = dns_question_format.packs

-- the bits, of which a search is to see no part
pub told : (value : DnsQuestion)
    → write_sequence (dns_question_writes High value ++ align ∷ []) 0 ≡ dns_question_bits value
unfolding dns_question_bits
told value = refl
