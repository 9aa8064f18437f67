-- Made by `./format` from formats/acl_packet.fields: edit that file and make this one anew.
-- A written `AclPacket` is read back, and its number of bits.
use Rattle.bitstream_messages.specs.AclPacket.{acl_packet_decoder, acl_packet_writes, acl_packet_size, acl_packet_bits, Fits, frame_number}
use Rattle.std.proofs.Common.{refl, arith}
use Rattle.bitstream_format.specs.Format.{Own as OwnFormat, field}
use Rattle.bitstream_format.specs.Measured.{vec}
use Rattle.bitstream_messages.specs.declared.acl_packet.AclPacket.{AclPacket}
use Rattle.bitstream_messages.specs.declared.acl_packet.AclPacketError.{AclPacketError}
use Rattle.std.proofs.Common.{◌≡◌, ◌++◌, ◌∷◌, [], Result, Ok, length}
use Rattle.bitstream_io.proofs.CallerLemmas.{RoundTrip, Packs, unsigned-back, pure-back, unsigned-written, packs-none, packs-more, packs-part, packs-is}
use Rattle.bitstream_format.proofs.ChecksLemmas.{verified-back}
use Rattle.bitstream_io.specs.Callers.{Order, High, Low, align, write_sequence}
use Rattle.bitstream_format.specs.Atoms as atom

-- a written value is read back
pub acl_packet_goes : (o : Order) (value : AclPacket) → Fits value
    → RoundTrip (acl_packet_decoder o) (acl_packet_writes o value) (Ok value)
acl_packet_goes o value fits =
    (field {W = (Result AclPacket AclPacketError)} (atom.unsigned 16 12 refl) (λ (s : AclPacket). s.handle)).round_trip
    o value _ _ _ fits.handle tt ((field {W = (Result AclPacket AclPacketError)} (atom.unsigned 8 2 refl) (λ (s :
    AclPacket). s.boundary)).round_trip o value _ _ _ fits.boundary tt ((field {W = (Result AclPacket
    AclPacketError)} (atom.unsigned 8 2 refl) (λ (s : AclPacket). s.broadcast)).round_trip o value _ _ _
    fits.broadcast tt (unsigned-back o 16 _ _ 64 (frame_number value) _ refl fits.stored_frame_bytes ((field {W =
    (Result AclPacket AclPacketError)} (atom.unsigned 64 16 refl) (λ (s : AclPacket). length s.payload)).round_trip
    o value _ _ _ fits.payload_bytes tt ((field {W = (Result AclPacket AclPacketError)} (atom.unsigned 16 16 refl)
    (λ (s : AclPacket). s.channel)).round_trip o value _ _ _ fits.channel tt ((field {W = (Result AclPacket
    AclPacketError)} (vec (length value.payload)) (λ (s : AclPacket). s.payload)).round_trip o value _ _ _
    (fits.payload, refl) tt (verified-back (frame_number value) _ _ _ (pure-back _))))))))

-- each write is accepted, and the value's size is the number of bits written
pub acl_packet_packs : (o : Order) (value : AclPacket) → Fits value
    → Packs (acl_packet_writes o value) (acl_packet_size o value)
acl_packet_packs o value fits =
    packs-is (packs-part ((field {W = (Result AclPacket AclPacketError)} (atom.unsigned 16 12 refl) (λ (s : AclPacket).
    s.handle)).packs o value fits.handle tt) (packs-part ((field {W = (Result AclPacket AclPacketError)}
    (atom.unsigned 8 2 refl) (λ (s : AclPacket). s.boundary)).packs o value fits.boundary tt) (packs-part ((field {W
    = (Result AclPacket AclPacketError)} (atom.unsigned 8 2 refl) (λ (s : AclPacket). s.broadcast)).packs o value
    fits.broadcast tt) (packs-more (unsigned-written o 64 16 (frame_number value) refl fits.stored_frame_bytes)
    (packs-part ((field {W = (Result AclPacket AclPacketError)} (atom.unsigned 64 16 refl) (λ (s : AclPacket).
    length s.payload)).packs o value fits.payload_bytes tt) (packs-part ((field {W = (Result AclPacket
    AclPacketError)} (atom.unsigned 16 16 refl) (λ (s : AclPacket). s.channel)).packs o value fits.channel tt)
    (packs-part ((field {W = (Result AclPacket AclPacketError)} (vec (length value.payload)) (λ (s : AclPacket).
    s.payload)).packs o value (fits.payload, refl) tt) (packs-none)))))))) (omega arith)

-- the format, with its laws
abbrev pub acl_packet_format : OwnFormat AclPacketError AclPacket
acl_packet_format = record {
  read = acl_packet_decoder;
  write = acl_packet_writes;
  size = acl_packet_size High;
  facts = λ value. Fits value ∷ [];
  round_trip = acl_packet_goes;
  packs = acl_packet_packs;
  besides = λ value. Fits value ∷ [];
  accepted = λ o value at fits all. fits;
}

-- the bits, of which a search is to see no part
pub told : (value : AclPacket)
    → write_sequence (acl_packet_writes Low value ++ align ∷ []) 0 ≡ acl_packet_bits value
unfolding acl_packet_bits
told value = refl
