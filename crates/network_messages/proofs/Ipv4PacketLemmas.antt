-- Made by `./format` from formats/ipv4_packet.fields: edit that file and make this one anew.
-- A written `Ipv4Packet` is read back, and its number of bits.
use Rattle.network_messages.specs.Ipv4Packet.{ipv4_packet_decoder, ipv4_packet_writes, ipv4_packet_size, ipv4_packet_bits, Fits, sum16_sum}
use Rattle.bitstream_format.specs.Stated.{stored_size}
use Rattle.std.proofs.Common.{refl, arith}
use Rattle.bitstream_format.specs.Format.{Own as OwnFormat, field, own_field, const}
use Rattle.bitstream_format.specs.Lists.{own as as_own}
use Rattle.bitstream_format.specs.Measured.{vec, in_units}
use Rattle.network_messages.specs.declared.ipv4_packet.Ipv4Packet.{Ipv4Packet}
use Rattle.network_messages.specs.declared.ipv4_packet.Ipv4PacketError.{Ipv4PacketError}
use Rattle.network_messages.specs.declared.ipv4_packet.Ipv4PacketError.TheVariants.{OtherVersion, ReservedSet, ShortHeader}
use Rattle.std.proofs.Common.{◌≡◌, ◌^◌, ◌++◌, ◌∷◌, [], Result, Ok, length}
use Rattle.bitstream_io.proofs.CallerLemmas.{RoundTrip, Packs, unsigned-back, literal-back, pure-back, unsigned-written, packs-none, packs-more, packs-part, packs-is}
use Rattle.bitstream_format.proofs.ChecksLemmas.{sum16-small, verified-back}
use Rattle.bitstream_format.proofs.SummedLemmas.{lines_sum-small}
use Rattle.bitstream_io.specs.Callers.{Order, High, align, write_sequence}
use Rattle.bitstream_format.specs.Checks.{sum16}
use Rattle.bitstream_format.specs.Atoms as atom

-- a written value is read back
pub ipv4_packet_goes : (o : Order) (value : Ipv4Packet) → Fits value
    → RoundTrip (ipv4_packet_decoder o) (ipv4_packet_writes o value) (Ok value)
ipv4_packet_goes o value fits =
    literal-back _ _ o 4 4 _ refl ((field {W = (Result Ipv4Packet Ipv4PacketError)} (atom.unsigned 64 4 refl) (λ (s :
    Ipv4Packet). stored_size 4 20 0 (length s.options))).round_trip o value _ _ _ fits.options_bytes tt ((field {W =
    (Result Ipv4Packet Ipv4PacketError)} (atom.unsigned 8 8 refl) (λ (s : Ipv4Packet). s.service)).round_trip o
    value _ _ _ fits.service tt ((field {W = (Result Ipv4Packet Ipv4PacketError)} (atom.unsigned 16 16 refl) (λ (s :
    Ipv4Packet). s.length)).round_trip o value _ _ _ fits.length_ tt ((field {W = (Result Ipv4Packet
    Ipv4PacketError)} (atom.unsigned 16 16 refl) (λ (s : Ipv4Packet). s.id)).round_trip o value _ _ _ fits.id tt
    (literal-back _ _ o 1 0 _ refl ((field {W = (Result Ipv4Packet Ipv4PacketError)} atom.bool (λ (s : Ipv4Packet).
    s.keep_whole)).round_trip o value _ _ _ tt tt ((field {W = (Result Ipv4Packet Ipv4PacketError)} atom.bool (λ (s
    : Ipv4Packet). s.more)).round_trip o value _ _ _ tt tt ((field {W = (Result Ipv4Packet Ipv4PacketError)}
    (atom.unsigned 16 13 refl) (λ (s : Ipv4Packet). s.offset)).round_trip o value _ _ _ fits.offset tt ((field {W =
    (Result Ipv4Packet Ipv4PacketError)} (atom.unsigned 8 8 refl) (λ (s : Ipv4Packet). s.ttl)).round_trip o value _
    _ _ fits.ttl tt ((field {W = (Result Ipv4Packet Ipv4PacketError)} (atom.unsigned 8 8 refl) (λ (s : Ipv4Packet).
    s.protocol)).round_trip o value _ _ _ fits.protocol tt (unsigned-back o 16 _ _ 64 (sum16_sum value) _ refl
    (lines_sum-small sum16 _ _ 16 sum16-small) ((field {W = (Result Ipv4Packet Ipv4PacketError)} (atom.bytes 4) (λ
    (s : Ipv4Packet). s.source)).round_trip o value _ _ _ (fits.source_count, fits.source) tt ((field {W = (Result
    Ipv4Packet Ipv4PacketError)} (atom.bytes 4) (λ (s : Ipv4Packet). s.target)).round_trip o value _ _ _
    (fits.target_count, fits.target) tt ((own_field {B = Ipv4Packet} (in_units 4 20 0 (2 ^ 4) refl refl ShortHeader
    (λ xs. length xs) (λ n. as_own (vec n)) (stored_size 4 20 0 (length value.options))) (λ (s : Ipv4Packet).
    s.options)).round_trip o value _ _ _ ((fits.options, refl), (fits.options_bytes, refl)) tt (verified-back
    (sum16_sum value) _ _ _ (pure-back _))))))))))))))))

-- each write is accepted, and the value's size is the number of bits written
pub ipv4_packet_packs : (o : Order) (value : Ipv4Packet) → Fits value
    → Packs (ipv4_packet_writes o value) (ipv4_packet_size o value)
ipv4_packet_packs o value fits =
    packs-is (packs-part ((const {B = Ipv4Packet} 4 4 refl OtherVersion).packs o value tt tt) (packs-part ((field {W =
    (Result Ipv4Packet Ipv4PacketError)} (atom.unsigned 64 4 refl) (λ (s : Ipv4Packet). stored_size 4 20 0 (length
    s.options))).packs o value fits.options_bytes tt) (packs-part ((field {W = (Result Ipv4Packet Ipv4PacketError)}
    (atom.unsigned 8 8 refl) (λ (s : Ipv4Packet). s.service)).packs o value fits.service tt) (packs-part ((field {W
    = (Result Ipv4Packet Ipv4PacketError)} (atom.unsigned 16 16 refl) (λ (s : Ipv4Packet). s.length)).packs o value
    fits.length_ tt) (packs-part ((field {W = (Result Ipv4Packet Ipv4PacketError)} (atom.unsigned 16 16 refl) (λ (s :
    Ipv4Packet). s.id)).packs o value fits.id tt) (packs-part ((const {B = Ipv4Packet} 1 0 refl ReservedSet).packs o
    value tt tt) (packs-part ((field {W = (Result Ipv4Packet Ipv4PacketError)} atom.bool (λ (s : Ipv4Packet).
    s.keep_whole)).packs o value tt tt) (packs-part ((field {W = (Result Ipv4Packet Ipv4PacketError)} atom.bool (λ
    (s : Ipv4Packet). s.more)).packs o value tt tt) (packs-part ((field {W = (Result Ipv4Packet Ipv4PacketError)}
    (atom.unsigned 16 13 refl) (λ (s : Ipv4Packet). s.offset)).packs o value fits.offset tt) (packs-part ((field {W
    = (Result Ipv4Packet Ipv4PacketError)} (atom.unsigned 8 8 refl) (λ (s : Ipv4Packet). s.ttl)).packs o value
    fits.ttl tt) (packs-part ((field {W = (Result Ipv4Packet Ipv4PacketError)} (atom.unsigned 8 8 refl) (λ (s :
    Ipv4Packet). s.protocol)).packs o value fits.protocol tt) (packs-more (unsigned-written o 64 16 (sum16_sum
    value) refl (lines_sum-small sum16 _ _ 16 sum16-small)) (packs-part ((field {W = (Result Ipv4Packet
    Ipv4PacketError)} (atom.bytes 4) (λ (s : Ipv4Packet). s.source)).packs o value (fits.source_count, fits.source)
    tt) (packs-part ((field {W = (Result Ipv4Packet Ipv4PacketError)} (atom.bytes 4) (λ (s : Ipv4Packet).
    s.target)).packs o value (fits.target_count, fits.target) tt) (packs-part ((own_field {B = Ipv4Packet} (in_units
    4 20 0 (2 ^ 4) refl refl ShortHeader (λ xs. length xs) (λ n. as_own (vec n)) (stored_size 4 20 0 (length
    value.options))) (λ (s : Ipv4Packet). s.options)).packs o value
    ((fits.options, refl), (fits.options_bytes, refl)) tt) (packs-none)))))))))))))))) (omega arith)

-- the format, with its laws
abbrev pub ipv4_packet_format : OwnFormat Ipv4PacketError Ipv4Packet
ipv4_packet_format = record {
  read = ipv4_packet_decoder;
  write = ipv4_packet_writes;
  size = ipv4_packet_size High;
  facts = λ value. Fits value ∷ [];
  round_trip = ipv4_packet_goes;
  packs = ipv4_packet_packs;
  besides = λ value. Fits value ∷ [];
  accepted = λ o value at fits all. fits;
}

-- the bits, of which a search is to see no part
pub told : (value : Ipv4Packet)
    → write_sequence (ipv4_packet_writes High value ++ align ∷ []) 0 ≡ ipv4_packet_bits value
unfolding ipv4_packet_bits
told value = refl
