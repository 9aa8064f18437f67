-- Made by `./format` from formats/udp_datagram.fields: edit that file and make this one anew.
-- A written `UdpDatagram` is read back, and its number of bits.
use Rattle.network_messages.specs.UdpDatagram.{udp_datagram_decoder, udp_datagram_writes, udp_datagram_size, udp_datagram_bits, Fits, sum16_udp_sum}
use Rattle.bitstream_format.specs.Stated.{stored_size}
use Rattle.std.proofs.Common.{refl, arith}
use Rattle.bitstream_format.specs.Format.{field, own_field}
use Rattle.bitstream_format.specs.Lists.{own as as_own}
use Rattle.bitstream_format.specs.Measured.{vec, in_units}
use Rattle.network_messages.specs.declared.udp_datagram.UdpDatagram.{UdpDatagram}
use Rattle.network_messages.specs.declared.udp_datagram.UdpDatagramError.{UdpDatagramError}
use Rattle.network_messages.specs.declared.udp_datagram.UdpDatagramError.TheVariants.{ShortLength}
use Rattle.std.proofs.Common.{◌≡◌, ◌^◌, ◌++◌, ◌∷◌, [], Result, Ok, length}
use Rattle.bitstream_io.proofs.CallerLemmas.{RoundTrip, Packs, unsigned-back, pure-back, unsigned-written, packs-none, packs-more, packs-part, packs-is}
use Rattle.bitstream_format.proofs.ChecksLemmas.{sum16_udp-small, verified-back}
use Rattle.bitstream_format.proofs.SummedLemmas.{lines_sum-small}
use Rattle.bitstream_io.specs.Callers.{Order, High, align, write_sequence}
use Rattle.bitstream_format.specs.Checks.{sum16_udp}
use Rattle.bitstream_format.specs.Atoms as atom

-- a written value is read back
pub udp_datagram_goes : (o : Order) (value : UdpDatagram) → Fits value
    → RoundTrip (udp_datagram_decoder o value.pseudo) (udp_datagram_writes o value) (Ok value)
udp_datagram_goes o value fits =
    (field {W = (Result UdpDatagram UdpDatagramError)} (atom.unsigned 16 16 refl) (λ (s : UdpDatagram).
    s.source)).round_trip o value _ _ _ fits.source tt ((field {W = (Result UdpDatagram UdpDatagramError)}
    (atom.unsigned 16 16 refl) (λ (s : UdpDatagram). s.target)).round_trip o value _ _ _ fits.target tt ((field {W =
    (Result UdpDatagram UdpDatagramError)} (atom.unsigned 64 16 refl) (λ (s : UdpDatagram). stored_size 1 8 0
    (length s.data))).round_trip o value _ _ _ fits.data_bytes tt (unsigned-back o 16 _ _ 64 (sum16_udp_sum value) _
    refl (lines_sum-small sum16_udp _ _ 16 sum16_udp-small) ((own_field {B = UdpDatagram} (in_units 1 8 0 (2 ^ 16)
    refl refl ShortLength (λ xs. length xs) (λ n. as_own (vec n)) (stored_size 1 8 0 (length value.data))) (λ (s :
    UdpDatagram). s.data)).round_trip o value _ _ _ ((fits.data_, refl), (fits.data_bytes, refl)) tt (verified-back
    (sum16_udp_sum value) _ _ _ (pure-back _))))))

-- each write is accepted, and the value's size is the number of bits written
pub udp_datagram_packs : (o : Order) (value : UdpDatagram) → Fits value
    → Packs (udp_datagram_writes o value) (udp_datagram_size o value)
udp_datagram_packs o value fits =
    packs-is (packs-part ((field {W = (Result UdpDatagram UdpDatagramError)} (atom.unsigned 16 16 refl) (λ (s :
    UdpDatagram). s.source)).packs o value fits.source tt) (packs-part ((field {W = (Result UdpDatagram
    UdpDatagramError)} (atom.unsigned 16 16 refl) (λ (s : UdpDatagram). s.target)).packs o value fits.target tt)
    (packs-part ((field {W = (Result UdpDatagram UdpDatagramError)} (atom.unsigned 64 16 refl) (λ (s : UdpDatagram).
    stored_size 1 8 0 (length s.data))).packs o value fits.data_bytes tt) (packs-more (unsigned-written o 64 16
    (sum16_udp_sum value) refl (lines_sum-small sum16_udp _ _ 16 sum16_udp-small)) (packs-part ((own_field {B =
    UdpDatagram} (in_units 1 8 0 (2 ^ 16) refl refl ShortLength (λ xs. length xs) (λ n. as_own (vec n)) (stored_size
    1 8 0 (length value.data))) (λ (s : UdpDatagram). s.data)).packs o value
    ((fits.data_, refl), (fits.data_bytes, refl)) tt) (packs-none)))))) (omega arith)

-- the bits, of which a search is to see no part
pub told : (value : UdpDatagram)
    → write_sequence (udp_datagram_writes High value ++ align ∷ []) 0 ≡ udp_datagram_bits value
unfolding udp_datagram_bits
told value = refl
