-- Made by `./format` from formats/ts_pmt.fields: edit that file and make this one anew.
-- A written `TsPmt` is read back, and its number of bits.
use Rattle.media_messages.specs.TsPmt.{ts_pmt_decoder, ts_pmt_writes, ts_pmt_size, ts_pmt_bits, Fits, crc32_mpeg_sum, streams_ended, ts_stream_error}
use Rattle.bitstream_format.specs.Stated.{stored_size}
use Rattle.media_messages.specs.TsStream.{ts_stream_size, ts_stream_format}
use Rattle.std.proofs.Common.{refl, arith}
use Rattle.bitstream_format.specs.Format.{Own as OwnFormat, field, own_field, const}
use Rattle.bitstream_format.specs.Lists.{with_error}
use Rattle.bitstream_format.specs.Measured.{of_items, stored_of_part, filling, in_units}
use Rattle.media_messages.specs.declared.ts_pmt.TsPmt.{TsPmt}
use Rattle.media_messages.specs.declared.ts_pmt.TsPmtError.{TsPmtError}
use Rattle.media_messages.specs.declared.ts_pmt.TsPmtError.TheVariants.{Reader, OtherTable, OtherSyntax, ZeroReserved, OtherSection, HasDescriptors, Overlong}
use Rattle.media_messages.specs.declared.ts_stream.TsStream.{TsStream}
use Rattle.std.proofs.Common.{◌≡◌, ◌^◌, ◌≤◌, ◌/◌, ◌++◌, ◌∷◌, [], Result, Ok}
use Rattle.bitstream_io.proofs.CallerLemmas.{RoundTrip, Packs, unsigned-back, literal-back, pure-back, unsigned-written, packs-none, packs-more, packs-part, packs-is}
use Rattle.bitstream_format.proofs.ChecksLemmas.{crc32_mpeg-small, verified-back}
use Rattle.bitstream_format.proofs.SummedLemmas.{lines_sum-small}
use Rattle.bitstream_io.specs.Callers.{Order, High, align, write_sequence}
use Rattle.bitstream_format.specs.Checks.{crc32_mpeg}
use Rattle.bitstream_io.specs.Loop.{parts_size}
use Rattle.bitstream_format.specs.Atoms as atom

-- each item has a byte or more
pub streams_wide : (it : TsStream) → 8 ≤ ts_stream_size High it
streams_wide it = omega arith

-- a written value is read back
pub ts_pmt_goes : (o : Order) (value : TsPmt) → Fits value
    → RoundTrip (ts_pmt_decoder o) (ts_pmt_writes o value) (Ok value)
ts_pmt_goes o value fits =
    literal-back _ _ o 8 2 _ refl (literal-back _ _ o 4 11 _ refl ((stored_of_part {W = (Result TsPmt TsPmtError)} 12 1
    13 0 refl refl refl (of_items ts_stream_format) (λ (s : TsPmt). s.streams)).round_trip o value _ _ _
    (fits.streams_bytes, fits.streams) tt ((field {W = (Result TsPmt TsPmtError)} (atom.unsigned 16 16 refl) (λ (s :
    TsPmt). s.program)).round_trip o value _ _ _ fits.program tt (literal-back _ _ o 2 3 _ refl ((field {W = (Result
    TsPmt TsPmtError)} (atom.unsigned 8 5 refl) (λ (s : TsPmt). s.version)).round_trip o value _ _ _ fits.version tt
    ((field {W = (Result TsPmt TsPmtError)} atom.bool (λ (s : TsPmt). s.current)).round_trip o value _ _ _ tt tt
    (literal-back _ _ o 16 0 _ refl (literal-back _ _ o 3 7 _ refl ((field {W = (Result TsPmt TsPmtError)}
    (atom.unsigned 16 13 refl) (λ (s : TsPmt). s.clock)).round_trip o value _ _ _ fits.clock tt (literal-back _ _ o
    16 61440 _ refl ((own_field {B = TsPmt} (in_units 1 13 0 (2 ^ 12) refl refl Overlong (λ a. parts_size
    ts_stream_format.size a / 8) (λ n. filling (with_error ts_stream_error ts_stream_format) Overlong (λ error.
    Reader error) streams_ended n streams_wide) (stored_size 1 13 0 (parts_size (ts_stream_size High) value.streams
    / 8))) (λ (s : TsPmt). s.streams)).round_trip o value _ _ _ (
      (
        fits.streams,
        fits.streams_whole
            High,
      ),
      (fits.streams_bytes, refl),
    ) tt (unsigned-back o 32 _ _ 64 (crc32_mpeg_sum value) _ refl (lines_sum-small
    crc32_mpeg _ _ 32 crc32_mpeg-small) (verified-back (crc32_mpeg_sum value) _ _ _ (pure-back _))))))))))))))

-- each write is accepted, and the value's size is the number of bits written
pub ts_pmt_packs : (o : Order) (value : TsPmt) → Fits value
    → Packs (ts_pmt_writes o value) (ts_pmt_size o value)
ts_pmt_packs o value fits =
    packs-is (packs-part ((const {B = TsPmt} 8 2 refl OtherTable).packs o value tt tt) (packs-part ((const {B = TsPmt} 4
    11 refl OtherSyntax).packs o value tt tt) (packs-part ((stored_of_part {W = (Result TsPmt TsPmtError)} 12 1 13 0
    refl refl refl (of_items ts_stream_format) (λ (s : TsPmt). s.streams)).packs o value
    (fits.streams_bytes, fits.streams) tt) (packs-part ((field {W = (Result TsPmt TsPmtError)} (atom.unsigned 16 16
    refl) (λ (s : TsPmt). s.program)).packs o value fits.program tt) (packs-part ((const {B = TsPmt} 2 3 refl
    ZeroReserved).packs o value tt tt) (packs-part ((field {W = (Result TsPmt TsPmtError)} (atom.unsigned 8 5 refl)
    (λ (s : TsPmt). s.version)).packs o value fits.version tt) (packs-part ((field {W = (Result TsPmt TsPmtError)}
    atom.bool (λ (s : TsPmt). s.current)).packs o value tt tt) (packs-part ((const {B = TsPmt} 16 0 refl
    OtherSection).packs o value tt tt) (packs-part ((const {B = TsPmt} 3 7 refl ZeroReserved).packs o value tt tt)
    (packs-part ((field {W = (Result TsPmt TsPmtError)} (atom.unsigned 16 13 refl) (λ (s : TsPmt). s.clock)).packs o
    value fits.clock tt) (packs-part ((const {B = TsPmt} 16 61440 refl HasDescriptors).packs o value tt tt)
    (packs-part ((own_field {B = TsPmt} (in_units 1 13 0 (2 ^ 12) refl refl Overlong (λ a. parts_size
    ts_stream_format.size a / 8) (λ n. filling (with_error ts_stream_error ts_stream_format) Overlong (λ error.
    Reader error) streams_ended n streams_wide) (stored_size 1 13 0 (parts_size (ts_stream_size High) value.streams
    / 8))) (λ (s : TsPmt). s.streams)).packs o value (
      (
        fits.streams,
        fits.streams_whole
            High,
      ),
      (fits.streams_bytes, refl),
    ) tt) (packs-more (unsigned-written o 64 32 (crc32_mpeg_sum value) refl
    (lines_sum-small crc32_mpeg _ _ 32 crc32_mpeg-small)) (packs-none)))))))))))))) (omega arith)

-- the format, with its laws
abbrev pub ts_pmt_format : OwnFormat TsPmtError TsPmt
ts_pmt_format = record {
  read = ts_pmt_decoder;
  write = ts_pmt_writes;
  size = ts_pmt_size High;
  facts = λ value. Fits value ∷ [];
  round_trip = ts_pmt_goes;
  packs = ts_pmt_packs;
  besides = λ value. Fits value ∷ [];
  accepted = λ o value at fits all. fits;
}

-- the bits, of which a search is to see no part
pub told : (value : TsPmt)
    → write_sequence (ts_pmt_writes High value ++ align ∷ []) 0 ≡ ts_pmt_bits value
unfolding ts_pmt_bits
told value = refl
