-- Made by `./format` from formats/adsb_frame.fields: edit that file and make this one anew.
-- A written `AdsbFrame` is read back, and its number of bits.
use Rattle.network_messages.specs.AdsbFrame.{adsb_frame_decoder, adsb_frame_writes, adsb_frame_size, adsb_frame_bits, Fits, crc24_adsb_sum}
use Rattle.std.proofs.Common.{refl, arith}
use Rattle.bitstream_format.specs.Format.{Own as OwnFormat, field, const}
use Rattle.network_messages.specs.declared.adsb_frame.AdsbFrame.{AdsbFrame}
use Rattle.network_messages.specs.declared.adsb_frame.AdsbFrameError.{AdsbFrameError}
use Rattle.network_messages.specs.declared.adsb_frame.AdsbFrameError.TheVariants.{OtherFormat}
use Rattle.std.proofs.Common.{◌≡◌, ◌++◌, ◌∷◌, [], Result, Ok}
use Rattle.bitstream_io.proofs.CallerLemmas.{RoundTrip, Packs, unsigned-back, literal-back, pure-back, unsigned-written, packs-none, packs-more, packs-part, packs-is}
use Rattle.bitstream_format.proofs.ChecksLemmas.{crc24_adsb-small, verified-back}
use Rattle.bitstream_format.proofs.SummedLemmas.{lines_sum-small}
use Rattle.bitstream_io.specs.Callers.{Order, High, align, write_sequence}
use Rattle.bitstream_format.specs.Checks.{crc24_adsb}
use Rattle.bitstream_format.specs.Atoms as atom

-- a written value is read back
pub adsb_frame_goes : (o : Order) (value : AdsbFrame) → Fits value
    → RoundTrip (adsb_frame_decoder o) (adsb_frame_writes o value) (Ok value)
adsb_frame_goes o value fits =
    literal-back _ _ o 5 17 _ refl ((field {W = (Result AdsbFrame AdsbFrameError)} (atom.unsigned 8 3 refl) (λ (s :
    AdsbFrame). s.capability)).round_trip o value _ _ _ fits.capability tt ((field {W = (Result AdsbFrame
    AdsbFrameError)} (atom.unsigned 32 24 refl) (λ (s : AdsbFrame). s.aircraft)).round_trip o value _ _ _
    fits.aircraft tt ((field {W = (Result AdsbFrame AdsbFrameError)} (atom.unsigned 8 5 refl) (λ (s : AdsbFrame).
    s.kind)).round_trip o value _ _ _ fits.kind tt ((field {W = (Result AdsbFrame AdsbFrameError)} (atom.unsigned 64
    51 refl) (λ (s : AdsbFrame). s.message)).round_trip o value _ _ _ fits.message tt (unsigned-back o 24 _ _ 64
    (crc24_adsb_sum value) _ refl (lines_sum-small crc24_adsb _ _ 24 crc24_adsb-small) (verified-back
    (crc24_adsb_sum value) _ _ _ (pure-back _)))))))

-- each write is accepted, and the value's size is the number of bits written
pub adsb_frame_packs : (o : Order) (value : AdsbFrame) → Fits value
    → Packs (adsb_frame_writes o value) (adsb_frame_size o value)
adsb_frame_packs o value fits =
    packs-is (packs-part ((const {B = AdsbFrame} 5 17 refl OtherFormat).packs o value tt tt) (packs-part ((field {W =
    (Result AdsbFrame AdsbFrameError)} (atom.unsigned 8 3 refl) (λ (s : AdsbFrame). s.capability)).packs o value
    fits.capability tt) (packs-part ((field {W = (Result AdsbFrame AdsbFrameError)} (atom.unsigned 32 24 refl) (λ (s
    : AdsbFrame). s.aircraft)).packs o value fits.aircraft tt) (packs-part ((field {W = (Result AdsbFrame
    AdsbFrameError)} (atom.unsigned 8 5 refl) (λ (s : AdsbFrame). s.kind)).packs o value fits.kind tt) (packs-part
    ((field {W = (Result AdsbFrame AdsbFrameError)} (atom.unsigned 64 51 refl) (λ (s : AdsbFrame). s.message)).packs
    o value fits.message tt) (packs-more (unsigned-written o 64 24 (crc24_adsb_sum value) refl (lines_sum-small
    crc24_adsb _ _ 24 crc24_adsb-small)) (packs-none))))))) (omega arith)

-- the format, with its laws
abbrev pub adsb_frame_format : OwnFormat AdsbFrameError AdsbFrame
adsb_frame_format = record {
  read = adsb_frame_decoder;
  write = adsb_frame_writes;
  size = adsb_frame_size High;
  facts = λ value. Fits value ∷ [];
  round_trip = adsb_frame_goes;
  packs = adsb_frame_packs;
  besides = λ value. Fits value ∷ [];
  accepted = λ o value at fits all. fits;
}

-- the bits, of which a search is to see no part
pub told : (value : AdsbFrame)
    → write_sequence (adsb_frame_writes High value ++ align ∷ []) 0 ≡ adsb_frame_bits value
unfolding adsb_frame_bits
told value = refl
