-- Made by `./format` from formats/wav_file.fields: edit that file and make this one anew.
-- A written `WavFile` is read back, and its number of bits.
use Rattle.media_messages.specs.WavFile.{wav_file_decoder, wav_file_writes, wav_file_size, wav_file_bits, Fits, riff_number}
use Rattle.std.proofs.Common.{refl, arith}
use Rattle.bitstream_format.specs.Format.{Own as OwnFormat, field, const}
use Rattle.bitstream_format.specs.Measured.{vec}
use Rattle.media_messages.specs.declared.wav_file.WavFile.{WavFile}
use Rattle.media_messages.specs.declared.wav_file.WavFileError.{WavFileError}
use Rattle.media_messages.specs.declared.wav_file.WavFileError.TheVariants.{NoRiff, NoWave, NoFormat, OtherFormat, NoData}
use Rattle.std.proofs.Common.{◌≡◌, ◌++◌, ◌∷◌, [], Result, Ok, length}
use Rattle.bitstream_io.proofs.CallerLemmas.{RoundTrip, Packs, unsigned-back, literal-back, pure-back, unsigned-written, packs-none, packs-more, packs-part, packs-is}
use Rattle.bitstream_format.proofs.ChecksLemmas.{verified-back}
use Rattle.bitstream_io.specs.Callers.{Order, High, Low, align, write_sequence}
use Rattle.bitstream_format.specs.Atoms as atom

-- a written value is read back
pub wav_file_goes : (o : Order) (value : WavFile) → Fits value
    → RoundTrip (wav_file_decoder o) (wav_file_writes o value) (Ok value)
wav_file_goes o value fits =
    literal-back _ _ o 32 1179011410 _ refl (unsigned-back o 32 _ _ 64 (riff_number value) _ refl fits.stored_riff_bytes
    (literal-back _ _ o 32 1163280727 _ refl (literal-back _ _ o 32 544501094 _ refl (literal-back _ _ o 32 16 _
    refl ((field {W = (Result WavFile WavFileError)} (atom.unsigned 16 16 refl) (λ (s : WavFile). s.tag)).round_trip
    o value _ _ _ fits.tag tt ((field {W = (Result WavFile WavFileError)} (atom.unsigned 16 16 refl) (λ (s :
    WavFile). s.channels)).round_trip o value _ _ _ fits.channels tt ((field {W = (Result WavFile WavFileError)}
    (atom.unsigned 32 32 refl) (λ (s : WavFile). s.rate)).round_trip o value _ _ _ fits.rate tt ((field {W = (Result
    WavFile WavFileError)} (atom.unsigned 32 32 refl) (λ (s : WavFile). s.byte_rate)).round_trip o value _ _ _
    fits.byte_rate tt ((field {W = (Result WavFile WavFileError)} (atom.unsigned 16 16 refl) (λ (s : WavFile).
    s.align)).round_trip o value _ _ _ fits.align tt ((field {W = (Result WavFile WavFileError)} (atom.unsigned 16
    16 refl) (λ (s : WavFile). s.bits)).round_trip o value _ _ _ fits.bits_ tt (literal-back _ _ o 32 1635017060 _
    refl ((field {W = (Result WavFile WavFileError)} (atom.unsigned 64 32 refl) (λ (s : WavFile). length
    s.samples)).round_trip o value _ _ _ fits.samples_bytes tt ((field {W = (Result WavFile WavFileError)} (vec
    (length value.samples)) (λ (s : WavFile). s.samples)).round_trip o value _ _ _ (fits.samples, refl) tt
    (verified-back (riff_number value) _ _ _ (pure-back _)))))))))))))))

-- each write is accepted, and the value's size is the number of bits written
pub wav_file_packs : (o : Order) (value : WavFile) → Fits value
    → Packs (wav_file_writes o value) (wav_file_size o value)
wav_file_packs o value fits =
    packs-is (packs-part ((const {B = WavFile} 32 1179011410 refl NoRiff).packs o value tt tt) (packs-more
    (unsigned-written o 64 32 (riff_number value) refl fits.stored_riff_bytes) (packs-part ((const {B = WavFile} 32
    1163280727 refl NoWave).packs o value tt tt) (packs-part ((const {B = WavFile} 32 544501094 refl NoFormat).packs
    o value tt tt) (packs-part ((const {B = WavFile} 32 16 refl OtherFormat).packs o value tt tt) (packs-part
    ((field {W = (Result WavFile WavFileError)} (atom.unsigned 16 16 refl) (λ (s : WavFile). s.tag)).packs o value
    fits.tag tt) (packs-part ((field {W = (Result WavFile WavFileError)} (atom.unsigned 16 16 refl) (λ (s :
    WavFile). s.channels)).packs o value fits.channels tt) (packs-part ((field {W = (Result WavFile WavFileError)}
    (atom.unsigned 32 32 refl) (λ (s : WavFile). s.rate)).packs o value fits.rate tt) (packs-part ((field {W =
    (Result WavFile WavFileError)} (atom.unsigned 32 32 refl) (λ (s : WavFile). s.byte_rate)).packs o value
    fits.byte_rate tt) (packs-part ((field {W = (Result WavFile WavFileError)} (atom.unsigned 16 16 refl) (λ (s :
    WavFile). s.align)).packs o value fits.align tt) (packs-part ((field {W = (Result WavFile WavFileError)}
    (atom.unsigned 16 16 refl) (λ (s : WavFile). s.bits)).packs o value fits.bits_ tt) (packs-part ((const {B =
    WavFile} 32 1635017060 refl NoData).packs o value tt tt) (packs-part ((field {W = (Result WavFile WavFileError)}
    (atom.unsigned 64 32 refl) (λ (s : WavFile). length s.samples)).packs o value fits.samples_bytes tt) (packs-part
    ((field {W = (Result WavFile WavFileError)} (vec (length value.samples)) (λ (s : WavFile). s.samples)).packs o
    value (fits.samples, refl) tt) (packs-none))))))))))))))) (omega arith)

-- the format, with its laws
abbrev pub wav_file_format : OwnFormat WavFileError WavFile
wav_file_format = record {
  read = wav_file_decoder;
  write = wav_file_writes;
  size = wav_file_size High;
  facts = λ value. Fits value ∷ [];
  round_trip = wav_file_goes;
  packs = wav_file_packs;
  besides = λ value. Fits value ∷ [];
  accepted = λ o value at fits all. fits;
}

-- the bits, of which a search is to see no part
pub told : (value : WavFile)
    → write_sequence (wav_file_writes Low value ++ align ∷ []) 0 ≡ wav_file_bits value
unfolding wav_file_bits
told value = refl
