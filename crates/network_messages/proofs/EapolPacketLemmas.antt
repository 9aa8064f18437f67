-- Made by `./format` from formats/eapol_packet.fields: edit that file and make this one anew.
-- A written `EapolPacket` is read back, and its number of bits.
use Rattle.network_messages.specs.EapolPacket.{eapol_packet_decoder, eapol_packet_writes, eapol_packet_size, eapol_packet_bits, Fits, body_bytes_sum, eap_code_cases}
use Rattle.bitstream_format.specs.Stated.{stored_size}
use Rattle.std.proofs.Common.{refl, arith}
use Rattle.bitstream_format.specs.Format.{Own as OwnFormat, field, own_field, const}
use Rattle.bitstream_format.specs.Lists.{own as as_own}
use Rattle.bitstream_format.specs.Measured.{vec, in_units}
use Rattle.network_messages.specs.declared.eapol_packet.EapolPacket.{EapolPacket}
use Rattle.network_messages.specs.declared.eapol_packet.EapolPacketError.{EapolPacketError}
use Rattle.network_messages.specs.declared.eapol_packet.EapolPacketError.TheVariants.{OtherType, ShortLength}
use Rattle.std.proofs.Common.{◌≡◌, ◌^◌, ◌++◌, ◌∷◌, [], Result, Ok, length}
use Rattle.bitstream_io.proofs.CallerLemmas.{RoundTrip, Packs, unsigned-back, literal-back, pure-back, unsigned-written, packs-none, packs-more, packs-part, packs-is}
use Rattle.bitstream_format.proofs.ChecksLemmas.{verified-back}
use Rattle.bitstream_io.specs.Callers.{Order, High, align, write_sequence}
use Rattle.bitstream_format.specs.Atoms as atom

-- a written value is read back
pub eapol_packet_goes : (o : Order) (value : EapolPacket) → Fits value
    → RoundTrip (eapol_packet_decoder o) (eapol_packet_writes o value) (Ok value)
eapol_packet_goes o value fits =
    (field {W = (Result EapolPacket EapolPacketError)} (atom.unsigned 8 8 refl) (λ (s : EapolPacket).
    s.version)).round_trip o value _ _ _ fits.version tt (literal-back _ _ o 8 0 _ refl (unsigned-back o 16 _ _ 64
    (body_bytes_sum value) _ refl fits.stored_body_bytes ((own_field {B = EapolPacket} eap_code_cases (λ (s :
    EapolPacket). s.code)).round_trip o value _ _ _ tt tt ((field {W = (Result EapolPacket EapolPacketError)}
    (atom.unsigned 8 8 refl) (λ (s : EapolPacket). s.id)).round_trip o value _ _ _ fits.id tt ((field {W = (Result
    EapolPacket EapolPacketError)} (atom.unsigned 64 16 refl) (λ (s : EapolPacket). stored_size 1 4 0 (length
    s.data))).round_trip o value _ _ _ fits.data_bytes tt ((own_field {B = EapolPacket} (in_units 1 4 0 (2 ^ 16)
    refl refl ShortLength (λ xs. length xs) (λ n. as_own (vec n)) (stored_size 1 4 0 (length value.data))) (λ (s :
    EapolPacket). s.data)).round_trip o value _ _ _ ((fits.data_, refl), (fits.data_bytes, refl)) tt (verified-back
    (body_bytes_sum value) _ _ _ (pure-back _))))))))

-- each write is accepted, and the value's size is the number of bits written
pub eapol_packet_packs : (o : Order) (value : EapolPacket) → Fits value
    → Packs (eapol_packet_writes o value) (eapol_packet_size o value)
eapol_packet_packs o value fits =
    packs-is (packs-part ((field {W = (Result EapolPacket EapolPacketError)} (atom.unsigned 8 8 refl) (λ (s :
    EapolPacket). s.version)).packs o value fits.version tt) (packs-part ((const {B = EapolPacket} 8 0 refl
    OtherType).packs o value tt tt) (packs-more (unsigned-written o 64 16 (body_bytes_sum value) refl
    fits.stored_body_bytes) (packs-part ((own_field {B = EapolPacket} eap_code_cases (λ (s : EapolPacket).
    s.code)).packs o value tt tt) (packs-part ((field {W = (Result EapolPacket EapolPacketError)} (atom.unsigned 8 8
    refl) (λ (s : EapolPacket). s.id)).packs o value fits.id tt) (packs-part ((field {W = (Result EapolPacket
    EapolPacketError)} (atom.unsigned 64 16 refl) (λ (s : EapolPacket). stored_size 1 4 0 (length s.data))).packs o
    value fits.data_bytes tt) (packs-part ((own_field {B = EapolPacket} (in_units 1 4 0 (2 ^ 16) refl refl
    ShortLength (λ xs. length xs) (λ n. as_own (vec n)) (stored_size 1 4 0 (length value.data))) (λ (s :
    EapolPacket). s.data)).packs o value ((fits.data_, refl), (fits.data_bytes, refl)) tt) (packs-none)))))))) (omega
    arith)

-- the format, with its laws
abbrev pub eapol_packet_format : OwnFormat EapolPacketError EapolPacket
eapol_packet_format = record {
  read = eapol_packet_decoder;
  write = eapol_packet_writes;
  size = eapol_packet_size High;
  facts = λ value. Fits value ∷ [];
  round_trip = eapol_packet_goes;
  packs = eapol_packet_packs;
  besides = λ value. Fits value ∷ [];
  accepted = λ o value at fits all. fits;
}

-- the bits, of which a search is to see no part
pub told : (value : EapolPacket)
    → write_sequence (eapol_packet_writes High value ++ align ∷ []) 0 ≡ eapol_packet_bits value
unfolding eapol_packet_bits
told value = refl
