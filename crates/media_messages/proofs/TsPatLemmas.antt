-- Made by `./format` from formats/ts_pat.fields: edit that file and make this one anew.
-- A written `TsPat` is read back, and its number of bits.
use Rattle.media_messages.specs.TsPat.{ts_pat_decoder, ts_pat_writes, ts_pat_size, ts_pat_bits, Fits, crc32_mpeg_sum, programs_ended, ts_program_error}
use Rattle.bitstream_format.specs.Stated.{stored_size}
use Rattle.media_messages.specs.TsProgram.{ts_program_size, ts_program_format}
use Rattle.std.proofs.Common.{refl, arith}
use Rattle.bitstream_format.specs.Format.{Own as OwnFormat, field, own_field, const}
use Rattle.bitstream_format.specs.Lists.{with_error}
use Rattle.bitstream_format.specs.Measured.{of_items, stored_of_part, filling, in_units}
use Rattle.media_messages.specs.declared.ts_pat.TsPat.{TsPat}
use Rattle.media_messages.specs.declared.ts_pat.TsPatError.{TsPatError}
use Rattle.media_messages.specs.declared.ts_pat.TsPatError.TheVariants.{Reader, OtherTable, NoSyntax, NotZero, ZeroReserved, Overlong}
use Rattle.media_messages.specs.declared.ts_program.TsProgram.{TsProgram}
use Rattle.std.proofs.Common.{◌≡◌, ◌^◌, ◌≤◌, ◌/◌, ◌++◌, ◌∷◌, [], Result, Ok}
use Rattle.bitstream_io.proofs.CallerLemmas.{RoundTrip, Packs, unsigned-back, literal-back, pure-back, unsigned-written, packs-none, packs-more, packs-part, packs-is}
use Rattle.bitstream_format.proofs.ChecksLemmas.{crc32_mpeg-small, verified-back}
use Rattle.bitstream_format.proofs.SummedLemmas.{lines_sum-small}
use Rattle.bitstream_io.specs.Callers.{Order, High, align, write_sequence}
use Rattle.bitstream_format.specs.Checks.{crc32_mpeg}
use Rattle.bitstream_io.specs.Loop.{parts_size}
use Rattle.bitstream_format.specs.Atoms as atom

-- each item has a byte or more
pub programs_wide : (it : TsProgram) → 8 ≤ ts_program_size High it
programs_wide it = omega arith

-- a written value is read back
pub ts_pat_goes : (o : Order) (value : TsPat) → Fits value
    → RoundTrip (ts_pat_decoder o) (ts_pat_writes o value) (Ok value)
ts_pat_goes o value fits =
    literal-back _ _ o 8 0 _ refl (literal-back _ _ o 1 1 _ refl (literal-back _ _ o 1 0 _ refl (literal-back _ _ o 2 3
    _ refl ((stored_of_part {W = (Result TsPat TsPatError)} 12 1 9 0 refl refl refl (of_items ts_program_format) (λ
    (s : TsPat). s.programs)).round_trip o value _ _ _ (fits.programs_bytes, fits.programs) tt ((field {W = (Result
    TsPat TsPatError)} (atom.unsigned 16 16 refl) (λ (s : TsPat). s.stream)).round_trip o value _ _ _ fits.stream tt
    (literal-back _ _ o 2 3 _ refl ((field {W = (Result TsPat TsPatError)} (atom.unsigned 8 5 refl) (λ (s : TsPat).
    s.version)).round_trip o value _ _ _ fits.version tt ((field {W = (Result TsPat TsPatError)} atom.bool (λ (s :
    TsPat). s.current)).round_trip o value _ _ _ tt tt ((field {W = (Result TsPat TsPatError)} (atom.unsigned 8 8
    refl) (λ (s : TsPat). s.section)).round_trip o value _ _ _ fits.section tt ((field {W = (Result TsPat
    TsPatError)} (atom.unsigned 8 8 refl) (λ (s : TsPat). s.last)).round_trip o value _ _ _ fits.last tt ((own_field
    {B = TsPat} (in_units 1 9 0 (2 ^ 12) refl refl Overlong (λ a. parts_size ts_program_format.size a / 8) (λ n.
    filling (with_error ts_program_error ts_program_format) Overlong (λ error. Reader error) programs_ended n
    programs_wide) (stored_size 1 9 0 (parts_size (ts_program_size High) value.programs / 8))) (λ (s : TsPat).
    s.programs)).round_trip o value _ _ _ ((fits.programs, fits.programs_whole High), (fits.programs_bytes, refl))
    tt (unsigned-back o 32 _ _ 64 (crc32_mpeg_sum value) _ refl (lines_sum-small crc32_mpeg _ _ 32 crc32_mpeg-small)
    (verified-back (crc32_mpeg_sum value) _ _ _ (pure-back _))))))))))))))

-- each write is accepted, and the value's size is the number of bits written
pub ts_pat_packs : (o : Order) (value : TsPat) → Fits value
    → Packs (ts_pat_writes o value) (ts_pat_size o value)
ts_pat_packs o value fits =
    packs-is (packs-part ((const {B = TsPat} 8 0 refl OtherTable).packs o value tt tt) (packs-part ((const {B = TsPat} 1
    1 refl NoSyntax).packs o value tt tt) (packs-part ((const {B = TsPat} 1 0 refl NotZero).packs o value tt tt)
    (packs-part ((const {B = TsPat} 2 3 refl ZeroReserved).packs o value tt tt) (packs-part ((stored_of_part {W =
    (Result TsPat TsPatError)} 12 1 9 0 refl refl refl (of_items ts_program_format) (λ (s : TsPat).
    s.programs)).packs o value (fits.programs_bytes, fits.programs) tt) (packs-part ((field {W = (Result TsPat
    TsPatError)} (atom.unsigned 16 16 refl) (λ (s : TsPat). s.stream)).packs o value fits.stream tt) (packs-part
    ((const {B = TsPat} 2 3 refl ZeroReserved).packs o value tt tt) (packs-part ((field {W = (Result TsPat
    TsPatError)} (atom.unsigned 8 5 refl) (λ (s : TsPat). s.version)).packs o value fits.version tt) (packs-part
    ((field {W = (Result TsPat TsPatError)} atom.bool (λ (s : TsPat). s.current)).packs o value tt tt) (packs-part
    ((field {W = (Result TsPat TsPatError)} (atom.unsigned 8 8 refl) (λ (s : TsPat). s.section)).packs o value
    fits.section tt) (packs-part ((field {W = (Result TsPat TsPatError)} (atom.unsigned 8 8 refl) (λ (s : TsPat).
    s.last)).packs o value fits.last tt) (packs-part ((own_field {B = TsPat} (in_units 1 9 0 (2 ^ 12) refl refl
    Overlong (λ a. parts_size ts_program_format.size a / 8) (λ n. filling (with_error ts_program_error
    ts_program_format) Overlong (λ error. Reader error) programs_ended n programs_wide) (stored_size 1 9 0
    (parts_size (ts_program_size High) value.programs / 8))) (λ (s : TsPat). s.programs)).packs o value
    ((fits.programs, fits.programs_whole High), (fits.programs_bytes, refl)) tt) (packs-more (unsigned-written o 64
    32 (crc32_mpeg_sum value) refl (lines_sum-small crc32_mpeg _ _ 32 crc32_mpeg-small)) (packs-none))))))))))))))
    (omega arith)

-- the format, with its laws
abbrev pub ts_pat_format : OwnFormat TsPatError TsPat
ts_pat_format = record {
  read = ts_pat_decoder;
  write = ts_pat_writes;
  size = ts_pat_size High;
  facts = λ value. Fits value ∷ [];
  round_trip = ts_pat_goes;
  packs = ts_pat_packs;
  besides = λ value. Fits value ∷ [];
  accepted = λ o value at fits all. fits;
}

-- the bits, of which a search is to see no part
pub told : (value : TsPat)
    → write_sequence (ts_pat_writes High value ++ align ∷ []) 0 ≡ ts_pat_bits value
unfolding ts_pat_bits
told value = refl
