-- Made by `./format` from formats/icmp_message.fields: edit that file and make this one anew.
-- A written `IcmpMessage` is read back, and its number of bits.
use Rattle.network_messages.specs.IcmpMessage.{icmp_message_decoder, icmp_message_writes, icmp_message_size, icmp_message_bits, Fits, echo_number, echo_cases}
use Rattle.std.proofs.Common.{refl, arith}
use Rattle.bitstream_format.specs.Format.{field, own_field}
use Rattle.bitstream_format.specs.Measured.{vec}
use Rattle.network_messages.specs.declared.icmp_message.IcmpMessage.{IcmpMessage}
use Rattle.network_messages.specs.declared.icmp_message.IcmpMessageError.{IcmpMessageError}
use Rattle.std.proofs.Common.{◌≡◌, ◌++◌, ◌∷◌, [], Result, Ok, length}
use Rattle.bitstream_io.proofs.CallerLemmas.{RoundTrip, Packs, unsigned-back, pure-back, unsigned-written, packs-none, packs-more, packs-part, packs-is}
use Rattle.bitstream_format.proofs.ChecksLemmas.{sum16-small, verified-back}
use Rattle.bitstream_io.specs.Callers.{Order, High, align, write_sequence}
use Rattle.bitstream_format.specs.Checks.{bytes1, bytes2, sum16}
use Rattle.bitstream_format.specs.Atoms as atom

-- a written value is read back
pub icmp_message_goes : (o : Order) (value : IcmpMessage) → Fits value
    → RoundTrip (icmp_message_decoder o (length value.data)) (icmp_message_writes o value) (Ok value)
icmp_message_goes o value fits =
    (own_field {B = IcmpMessage} echo_cases (λ (s : IcmpMessage). s.kind)).round_trip o value _ _ _ tt tt ((field {W =
    (Result IcmpMessage IcmpMessageError)} (atom.unsigned 8 8 refl) (λ (s : IcmpMessage). s.code)).round_trip o
    value _ _ _ fits.code tt (unsigned-back o 16 _ _ 16 (sum16 (bytes1 (echo_number value.kind) ++ bytes1 value.code
    ++ bytes2 value.identifier ++ bytes2 value.sequence ++ value.data)) _ refl (sum16-small (bytes1 (echo_number
    value.kind) ++ bytes1 value.code ++ bytes2 value.identifier ++ bytes2 value.sequence ++ value.data)) ((field {W
    = (Result IcmpMessage IcmpMessageError)} (atom.unsigned 16 16 refl) (λ (s : IcmpMessage).
    s.identifier)).round_trip o value _ _ _ fits.identifier tt ((field {W = (Result IcmpMessage IcmpMessageError)}
    (atom.unsigned 16 16 refl) (λ (s : IcmpMessage). s.sequence)).round_trip o value _ _ _ fits.sequence tt ((field
    {W = (Result IcmpMessage IcmpMessageError)} (vec (length value.data)) (λ (s : IcmpMessage). s.data)).round_trip
    o value _ _ _ (fits.data_, refl) tt (verified-back (sum16 (bytes1 (echo_number value.kind) ++ bytes1 value.code
    ++ bytes2 value.identifier ++ bytes2 value.sequence ++ value.data)) _ _ _ (pure-back _)))))))

-- each write is accepted, and the value's size is the number of bits written
pub icmp_message_packs : (o : Order) (value : IcmpMessage) → Fits value
    → Packs (icmp_message_writes o value) (icmp_message_size o value)
icmp_message_packs o value fits =
    packs-is (packs-part ((own_field {B = IcmpMessage} echo_cases (λ (s : IcmpMessage). s.kind)).packs o value tt tt)
    (packs-part ((field {W = (Result IcmpMessage IcmpMessageError)} (atom.unsigned 8 8 refl) (λ (s : IcmpMessage).
    s.code)).packs o value fits.code tt) (packs-more (unsigned-written o 16 16 (sum16 (bytes1 (echo_number
    value.kind) ++ bytes1 value.code ++ bytes2 value.identifier ++ bytes2 value.sequence ++ value.data)) refl
    (sum16-small (bytes1 (echo_number value.kind) ++ bytes1 value.code ++ bytes2 value.identifier ++ bytes2
    value.sequence ++ value.data))) (packs-part ((field {W = (Result IcmpMessage IcmpMessageError)} (atom.unsigned
    16 16 refl) (λ (s : IcmpMessage). s.identifier)).packs o value fits.identifier tt) (packs-part ((field {W =
    (Result IcmpMessage IcmpMessageError)} (atom.unsigned 16 16 refl) (λ (s : IcmpMessage). s.sequence)).packs o
    value fits.sequence tt) (packs-part ((field {W = (Result IcmpMessage IcmpMessageError)} (vec (length
    value.data)) (λ (s : IcmpMessage). s.data)).packs o value (fits.data_, refl) tt) (packs-none))))))) (omega arith)

-- the bits, of which a search is to see no part
pub told : (value : IcmpMessage)
    → write_sequence (icmp_message_writes High value ++ align ∷ []) 0 ≡ icmp_message_bits value
unfolding icmp_message_bits
told value = refl
