-- A program association section of a transport stream (ISO/IEC 13818-1, section 2.4.4.3).
use Rattle.media_messages.specs.declared.ts_pat.TsPat.{TsPat}
use Rattle.media_messages.specs.declared.ts_pat.TsPatError.{TsPatError}
use Rattle.media_messages.specs.declared.ts_pat.TsPatError.TheVariants.{Reader, OtherTable, NoSyntax, NotZero, ZeroReserved, Overlong, InTsProgram, WrongCrc}
use Rattle.media_messages.specs.declared.ts_program.TsProgram.{TsProgram}
use Rattle.media_messages.specs.declared.ts_program.TsProgramError.{TsProgramError}
use Rattle.media_messages.specs.declared.ts_program.TsProgramError.TheVariants.{Reader as TsProgramReader, ZeroReserved as TsProgramZeroReserved}
use Rattle.bitstream_format.specs.Stated.{stated_decoder, stored_encoder, stored_size}
use Rattle.bitstream_format.specs.Within.{is_end}
use Rattle.bitstream_format.specs.Filled.{filled_decoder}
use Rattle.media_messages.specs.TsProgram.{ts_program_decoder, ts_program_writes, ts_program_size, Fits as TsProgramFits}
use Rattle.bitstream_format.specs.Lists.{error_of}
use Rattle.std.specs.Prelude.{◌≡◌, ◌^◌, ◌<◌, ◌+◌, ◌*◌, ◌/◌, ◌++◌, ◌∷◌, [], ◌==◌, if◌then◌else◌, ℕ, Bool, List, Result, Ok, Err}
use Rattle.std.specs.List.{All, flat_map}
use Rattle.bitstream_io.specs.Callers.{◌>>=◌, Decoder, Encoder, pure, Error, Order, High, and_then, word, bit_decoder, unsigned_decoder, const_decoder, plain, bit, unsigned, align, write_sequence, part_then}
use Rattle.bitstream_format.specs.Checks.{crc32_mpeg}
use Rattle.bitstream_format.specs.Summed.{lines_sum}
use Rattle.bitstream_io.specs.Loop.{parts_size}

-- Made by `./format` from formats/ts_pat.fields: edit that file and make this one anew.

-- an error of the reader is one of the type's
abbrev pub becomes_ts_pat : Error → TsPatError → Type 0
becomes_ts_pat error own = own ≡ Reader error

-- an error of a `TsProgram`, as an error of the type
abbrev pub ts_program_error : TsProgramError → TsPatError
ts_program_error (TsProgramReader error) = Reader error
ts_program_error TsProgramZeroReserved = InTsProgram TsProgramZeroReserved

-- a result with these errors
abbrev pub ts_program_answer : Result TsProgram TsProgramError → Result TsProgram TsPatError
ts_program_answer = error_of ts_program_error

-- the reads of a `TsProgram`, with the errors of the type
abbrev pub ts_program_here : Order → Decoder (Result TsProgram TsPatError)
ts_program_here o = and_then (ts_program_decoder o) (λ answer. pure (ts_program_answer answer))

-- an error inside the bytes of `programs`: their end is `Overlong`
abbrev pub programs_ended : TsPatError → TsPatError
programs_ended (Reader error) = if is_end error then Overlong else Reader error
programs_ended OtherTable = OtherTable
programs_ended NoSyntax = NoSyntax
programs_ended NotZero = NotZero
programs_ended ZeroReserved = ZeroReserved
programs_ended Overlong = Overlong
programs_ended (InTsProgram error) = InTsProgram error
programs_ended WrongCrc = WrongCrc

-- the reads of `programs`, of n bytes, over these bytes alone
abbrev pub programs_sized : Order → ℕ → Decoder (Result (List TsProgram) TsPatError)
programs_sized o n = filled_decoder (λ o. ts_program_here o) Overlong (λ error. Reader error) programs_ended o n

-- the reads of `programs` by the number that states its size
abbrev pub programs_stated : Order → ℕ → Decoder (Result (List TsProgram) TsPatError)
programs_stated o stored = stated_decoder 1 9 0 Overlong programs_sized o stored

-- the writes that the crc32_mpeg covers, in order
abbrev pub crc32_mpeg_writes : Order → TsPat → List Encoder
crc32_mpeg_writes o value =
    plain (word o 8 0)
    ∷ plain (word o 1 1)
    ∷ plain (word o 1 0)
    ∷ plain (word o 2 3)
    ∷ stored_encoder o 12 1 9 0 (flat_map (ts_program_writes High) value.programs)
    ∷ unsigned o 16 16 value.stream
    ∷ plain (word o 2 3)
    ∷ unsigned o 8 5 value.version
    ∷ bit value.current
    ∷ unsigned o 8 8 value.section
    ∷ unsigned o 8 8 value.last
    ∷ flat_map (ts_program_writes o) value.programs
    ++ []

-- the crc32-mpeg of these lines
abbrev pub crc32_mpeg_sum : TsPat → ℕ
crc32_mpeg_sum value = lines_sum crc32_mpeg High (crc32_mpeg_writes High value)

-- the reads, in order, after 7 that may be refused
abbrev pub ts_pat_decoder_7 : Order → ℕ → ℕ → ℕ → Bool → ℕ → ℕ → List TsProgram → ℕ → Decoder (Result TsPat TsPatError)
ts_pat_decoder_7 o programs_bytes stream version current section last programs stored_crc32_mpeg = pure (Ok (record {
  stream = stream;
  version = version;
  current = current;
  section = section;
  last = last;
  programs = programs;
}))

-- the reads, in order, after 6 that may be refused
abbrev pub ts_pat_decoder_6 : Order → ℕ → ℕ → ℕ → Bool → ℕ → ℕ → List TsProgram → Decoder (Result TsPat TsPatError)
ts_pat_decoder_6 o programs_bytes stream version current section last programs = do
  stored_crc32_mpeg ← unsigned_decoder o 64 32
  if stored_crc32_mpeg == crc32_mpeg_sum (record {
    stream = stream;
    version = version;
    current = current;
    section =
        section;
    last = last;
    programs = programs;
  }) then ts_pat_decoder_7 o programs_bytes stream version current section
      last programs stored_crc32_mpeg else pure (Err WrongCrc)

-- the reads, in order, after 5 that may be refused
abbrev pub ts_pat_decoder_5 : Order → ℕ → ℕ → Decoder (Result TsPat TsPatError)
ts_pat_decoder_5 o programs_bytes stream = do
  version ← unsigned_decoder o 8 5
  current ← bit_decoder
  section ← unsigned_decoder o 8 8
  last ← unsigned_decoder o 8 8
  and_then (programs_stated o programs_bytes) (part_then (λ programs. ts_pat_decoder_6 o programs_bytes stream version
      current section last programs))

-- the reads, in order, after 4 that may be refused
abbrev pub ts_pat_decoder_4 : Order → Decoder (Result TsPat TsPatError)
ts_pat_decoder_4 o = do
  programs_bytes ← unsigned_decoder o 64 12
  stream ← unsigned_decoder o 16 16
  is_6 ← const_decoder o 2 3
  if is_6 then ts_pat_decoder_5 o programs_bytes stream else pure (Err ZeroReserved)

-- the reads, in order, after 3 that may be refused
abbrev pub ts_pat_decoder_3 : Order → Decoder (Result TsPat TsPatError)
ts_pat_decoder_3 o = do
  is_3 ← const_decoder o 2 3
  if is_3 then ts_pat_decoder_4 o else pure (Err ZeroReserved)

-- the reads, in order, after 2 that may be refused
abbrev pub ts_pat_decoder_2 : Order → Decoder (Result TsPat TsPatError)
ts_pat_decoder_2 o = do
  is_2 ← const_decoder o 1 0
  if is_2 then ts_pat_decoder_3 o else pure (Err NotZero)

-- the reads, in order, after 1 that may be refused
abbrev pub ts_pat_decoder_1 : Order → Decoder (Result TsPat TsPatError)
ts_pat_decoder_1 o = do
  is_1 ← const_decoder o 1 1
  if is_1 then ts_pat_decoder_2 o else pure (Err NoSyntax)

-- the reads, in order
abbrev pub ts_pat_decoder : Order → Decoder (Result TsPat TsPatError)
ts_pat_decoder o = do
  is_0 ← const_decoder o 8 0
  if is_0 then ts_pat_decoder_1 o else pure (Err OtherTable)

-- the writes, in order
abbrev pub ts_pat_writes : Order → TsPat → List Encoder
ts_pat_writes o value =
    plain (word o 8 0)
    ∷ plain (word o 1 1)
    ∷ plain (word o 1 0)
    ∷ plain (word o 2 3)
    ∷ stored_encoder o 12 1 9 0 (flat_map (ts_program_writes High) value.programs)
    ∷ unsigned o 16 16 value.stream
    ∷ plain (word o 2 3)
    ∷ unsigned o 8 5 value.version
    ∷ bit value.current
    ∷ unsigned o 8 8 value.section
    ∷ unsigned o 8 8 value.last
    ∷ flat_map (ts_program_writes o) value.programs
    ++ unsigned o 64 32 (crc32_mpeg_sum value)
    ∷ []

-- each field fits its bits
pub record Fits (value : TsPat) : Type 0 where
  pub programs_bytes : stored_size 1 9 0 (parts_size (ts_program_size High) value.programs / 8) < 2 ^ 12
  pub stream : value.stream < 2 ^ 16
  pub version : value.version < 2 ^ 5
  pub section : value.section < 2 ^ 8
  pub last : value.last < 2 ^ 8
  pub programs : All TsProgramFits value.programs
  pub programs_whole : (o : Order) → parts_size (ts_program_size o) value.programs ≡ 8 * (parts_size (ts_program_size
      High) value.programs / 8)

-- the number of bits
abbrev pub ts_pat_size : Order → TsPat → ℕ
ts_pat_size o value = 96 + parts_size (ts_program_size o) value.programs

-- the bits of all fields, up to a whole byte
unfoldable pub ts_pat_bits : TsPat → List Bool
ts_pat_bits value = write_sequence (ts_pat_writes High value ++ align ∷ []) 0
