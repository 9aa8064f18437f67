-- A program map section without descriptors of the program (ISO/IEC 13818-1, section 2.4.4.8).
use Rattle.media_messages.specs.declared.ts_pmt.TsPmt.{TsPmt}
use Rattle.media_messages.specs.declared.ts_pmt.TsPmtError.{TsPmtError}
use Rattle.media_messages.specs.declared.ts_pmt.TsPmtError.TheVariants.{Reader, OtherTable, OtherSyntax, ZeroReserved, OtherSection, HasDescriptors, Overlong, InTsStream, WrongCrc}
use Rattle.media_messages.specs.declared.ts_stream.TsStream.{TsStream}
use Rattle.media_messages.specs.declared.ts_stream.TsStreamError.{TsStreamError}
use Rattle.media_messages.specs.declared.ts_stream.TsStreamError.TheVariants.{Reader as TsStreamReader, ZeroReserved as TsStreamZeroReserved}
use Rattle.bitstream_format.specs.Stated.{stated_decoder, stored_encoder, stored_size}
use Rattle.bitstream_format.specs.Within.{is_end}
use Rattle.bitstream_format.specs.Filled.{filled_decoder}
use Rattle.media_messages.specs.TsStream.{ts_stream_decoder, ts_stream_writes, ts_stream_size, Fits as TsStreamFits}
use Rattle.bitstream_format.specs.Lists.{error_of}
use Rattle.std.specs.Prelude.{◌≡◌, ◌^◌, ◌<◌, ◌+◌, ◌*◌, ◌/◌, ◌++◌, ◌∷◌, [], ◌==◌, if◌then◌else◌, ℕ, Bool, List, Result, Ok, Err}
use Rattle.std.specs.List.{All, flat_map}
use Rattle.bitstream_io.specs.Callers.{◌>>=◌, Decoder, Encoder, pure, Error, Order, High, and_then, word, bit_decoder, unsigned_decoder, const_decoder, plain, bit, unsigned, align, write_sequence, part_then}
use Rattle.bitstream_format.specs.Checks.{crc32_mpeg}
use Rattle.bitstream_format.specs.Summed.{lines_sum}
use Rattle.bitstream_io.specs.Loop.{parts_size}

-- Made by `./format` from formats/ts_pmt.fields: edit that file and make this one anew.

-- an error of the reader is one of the type's
abbrev pub becomes_ts_pmt : Error → TsPmtError → Type 0
becomes_ts_pmt error own = own ≡ Reader error

-- an error of a `TsStream`, as an error of the type
abbrev pub ts_stream_error : TsStreamError → TsPmtError
ts_stream_error (TsStreamReader error) = Reader error
ts_stream_error TsStreamZeroReserved = InTsStream TsStreamZeroReserved

-- a result with these errors
abbrev pub ts_stream_answer : Result TsStream TsStreamError → Result TsStream TsPmtError
ts_stream_answer = error_of ts_stream_error

-- the reads of a `TsStream`, with the errors of the type
abbrev pub ts_stream_here : Order → Decoder (Result TsStream TsPmtError)
ts_stream_here o = and_then (ts_stream_decoder o) (λ answer. pure (ts_stream_answer answer))

-- an error inside the bytes of `streams`: their end is `Overlong`
abbrev pub streams_ended : TsPmtError → TsPmtError
streams_ended (Reader error) = if is_end error then Overlong else Reader error
streams_ended OtherTable = OtherTable
streams_ended OtherSyntax = OtherSyntax
streams_ended ZeroReserved = ZeroReserved
streams_ended OtherSection = OtherSection
streams_ended HasDescriptors = HasDescriptors
streams_ended Overlong = Overlong
streams_ended (InTsStream error) = InTsStream error
streams_ended WrongCrc = WrongCrc

-- the reads of `streams`, of n bytes, over these bytes alone
abbrev pub streams_sized : Order → ℕ → Decoder (Result (List TsStream) TsPmtError)
streams_sized o n = filled_decoder (λ o. ts_stream_here o) Overlong (λ error. Reader error) streams_ended o n

-- the reads of `streams` by the number that states its size
abbrev pub streams_stated : Order → ℕ → Decoder (Result (List TsStream) TsPmtError)
streams_stated o stored = stated_decoder 1 13 0 Overlong streams_sized o stored

-- the writes that the crc32_mpeg covers, in order
abbrev pub crc32_mpeg_writes : Order → TsPmt → List Encoder
crc32_mpeg_writes o value =
    plain (word o 8 2)
    ∷ plain (word o 4 11)
    ∷ stored_encoder o 12 1 13 0 (flat_map (ts_stream_writes High) value.streams)
    ∷ unsigned o 16 16 value.program
    ∷ plain (word o 2 3)
    ∷ unsigned o 8 5 value.version
    ∷ bit value.current
    ∷ plain (word o 16 0)
    ∷ plain (word o 3 7)
    ∷ unsigned o 16 13 value.clock
    ∷ plain (word o 16 61440)
    ∷ flat_map (ts_stream_writes o) value.streams
    ++ []

-- the crc32-mpeg of these lines
abbrev pub crc32_mpeg_sum : TsPmt → ℕ
crc32_mpeg_sum value = lines_sum crc32_mpeg High (crc32_mpeg_writes High value)

-- the reads, in order, after 8 that may be refused
abbrev pub ts_pmt_decoder_8 : Order → ℕ → ℕ → ℕ → Bool → ℕ → List TsStream → ℕ → Decoder (Result TsPmt TsPmtError)
ts_pmt_decoder_8 o streams_bytes program version current clock streams stored_crc32_mpeg = pure (Ok (record {
  program =
      program;
  version = version;
  current = current;
  clock = clock;
  streams = streams;
}))

-- the reads, in order, after 7 that may be refused
abbrev pub ts_pmt_decoder_7 : Order → ℕ → ℕ → ℕ → Bool → ℕ → List TsStream → Decoder (Result TsPmt TsPmtError)
ts_pmt_decoder_7 o streams_bytes program version current clock streams = do
  stored_crc32_mpeg ← unsigned_decoder o 64 32
  if stored_crc32_mpeg == crc32_mpeg_sum (record {
    program = program;
    version = version;
    current = current;
    clock =
        clock;
    streams = streams;
  }) then ts_pmt_decoder_8 o streams_bytes program version current clock streams
      stored_crc32_mpeg else pure (Err WrongCrc)

-- the reads, in order, after 6 that may be refused
abbrev pub ts_pmt_decoder_6 : Order → ℕ → ℕ → ℕ → Bool → ℕ → Decoder (Result TsPmt TsPmtError)
ts_pmt_decoder_6 o streams_bytes program version current clock = and_then (streams_stated o streams_bytes) (part_then (λ
    streams. ts_pmt_decoder_7 o streams_bytes program version current clock streams))

-- the reads, in order, after 5 that may be refused
abbrev pub ts_pmt_decoder_5 : Order → ℕ → ℕ → ℕ → Bool → Decoder (Result TsPmt TsPmtError)
ts_pmt_decoder_5 o streams_bytes program version current = do
  clock ← unsigned_decoder o 16 13
  is_10 ← const_decoder o 16 61440
  if is_10 then ts_pmt_decoder_6 o streams_bytes program version current clock else pure (Err HasDescriptors)

-- the reads, in order, after 4 that may be refused
abbrev pub ts_pmt_decoder_4 : Order → ℕ → ℕ → ℕ → Bool → Decoder (Result TsPmt TsPmtError)
ts_pmt_decoder_4 o streams_bytes program version current = do
  is_8 ← const_decoder o 3 7
  if is_8 then ts_pmt_decoder_5 o streams_bytes program version current else pure (Err ZeroReserved)

-- the reads, in order, after 3 that may be refused
abbrev pub ts_pmt_decoder_3 : Order → ℕ → ℕ → Decoder (Result TsPmt TsPmtError)
ts_pmt_decoder_3 o streams_bytes program = do
  version ← unsigned_decoder o 8 5
  current ← bit_decoder
  is_7 ← const_decoder o 16 0
  if is_7 then ts_pmt_decoder_4 o streams_bytes program version current else pure (Err OtherSection)

-- the reads, in order, after 2 that may be refused
abbrev pub ts_pmt_decoder_2 : Order → Decoder (Result TsPmt TsPmtError)
ts_pmt_decoder_2 o = do
  streams_bytes ← unsigned_decoder o 64 12
  program ← unsigned_decoder o 16 16
  is_4 ← const_decoder o 2 3
  if is_4 then ts_pmt_decoder_3 o streams_bytes program else pure (Err ZeroReserved)

-- the reads, in order, after 1 that may be refused
abbrev pub ts_pmt_decoder_1 : Order → Decoder (Result TsPmt TsPmtError)
ts_pmt_decoder_1 o = do
  is_1 ← const_decoder o 4 11
  if is_1 then ts_pmt_decoder_2 o else pure (Err OtherSyntax)

-- the reads, in order
abbrev pub ts_pmt_decoder : Order → Decoder (Result TsPmt TsPmtError)
ts_pmt_decoder o = do
  is_0 ← const_decoder o 8 2
  if is_0 then ts_pmt_decoder_1 o else pure (Err OtherTable)

-- the writes, in order
abbrev pub ts_pmt_writes : Order → TsPmt → List Encoder
ts_pmt_writes o value =
    plain (word o 8 2)
    ∷ plain (word o 4 11)
    ∷ stored_encoder o 12 1 13 0 (flat_map (ts_stream_writes High) value.streams)
    ∷ unsigned o 16 16 value.program
    ∷ plain (word o 2 3)
    ∷ unsigned o 8 5 value.version
    ∷ bit value.current
    ∷ plain (word o 16 0)
    ∷ plain (word o 3 7)
    ∷ unsigned o 16 13 value.clock
    ∷ plain (word o 16 61440)
    ∷ flat_map (ts_stream_writes o) value.streams
    ++ unsigned o 64 32 (crc32_mpeg_sum value)
    ∷ []

-- each field fits its bits
pub record Fits (value : TsPmt) : Type 0 where
  pub streams_bytes : stored_size 1 13 0 (parts_size (ts_stream_size High) value.streams / 8) < 2 ^ 12
  pub program : value.program < 2 ^ 16
  pub version : value.version < 2 ^ 5
  pub clock : value.clock < 2 ^ 13
  pub streams : All TsStreamFits value.streams
  pub streams_whole : (o : Order) → parts_size (ts_stream_size o) value.streams ≡ 8 * (parts_size (ts_stream_size High)
      value.streams / 8)

-- the number of bits
abbrev pub ts_pmt_size : Order → TsPmt → ℕ
ts_pmt_size o value = 128 + parts_size (ts_stream_size o) value.streams

-- the bits of all fields, up to a whole byte
unfoldable pub ts_pmt_bits : TsPmt → List Bool
ts_pmt_bits value = write_sequence (ts_pmt_writes High value ++ align ∷ []) 0
