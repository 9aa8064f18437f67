-- A stream of a program map section (ISO/IEC 13818-1, section 2.4.4.8).
use Rattle.media_messages.specs.declared.ts_stream.TsStream.{TsStream}
use Rattle.media_messages.specs.declared.ts_stream.TsStreamError.{TsStreamError}
use Rattle.media_messages.specs.declared.ts_stream.TsStreamError.TheVariants.{Reader, ZeroReserved}
use Rattle.std.proofs.Common.{refl}
use Rattle.bitstream_format.specs.Format.{◌>>=◌, Own as OwnFormat, Parts as FormatParts, format, named, field, const, ◌&◌, own_done}
use Rattle.bitstream_format.specs.Measured.{vec}
use Rattle.std.specs.Prelude.{◌≡◌, ◌^◌, ◌<◌, ◌++◌, ◌∷◌, [], ℕ, Bool, List, Result, Ok, length}
use Rattle.std.specs.List.{All}
use Rattle.bitstream_io.specs.Callers.{Decoder, Encoder, Error, Order, High, align, write_sequence}
use Rattle.bitstream_format.specs.Atoms as atom

-- Made by `./format` from formats/ts_stream.fields: edit that file and make this one anew.

-- an error of the reader is one of the type's
abbrev pub becomes_ts_stream : Error → TsStreamError → Type 0
becomes_ts_stream error own = own ≡ Reader error

-- the lines, in order
abbrev pub ts_stream_lines : FormatParts TsStream (Result TsStream TsStreamError) (λ s. Ok s)
ts_stream_lines = do
  kind ← field (atom.unsigned 8 8 refl) (λ s. s.kind)
  constant_1 ← const 3 7 refl ZeroReserved
  packets ← field (atom.unsigned 16 13 refl) (λ s. s.packets)
  constant_3 ← const 4 15 refl ZeroReserved
  descriptors_bytes ← field (atom.unsigned 64 12 refl) (λ s. length s.descriptors)
  descriptors ← field (vec descriptors_bytes) (λ s. s.descriptors)
  own_done (record { kind = kind; packets = packets; descriptors = descriptors })

-- the reads, in order
abbrev pub ts_stream_decoder : Order → Decoder (Result TsStream TsStreamError)
ts_stream_decoder o = ts_stream_lines.read o

-- the writes, in order
abbrev pub ts_stream_writes : Order → TsStream → List Encoder
ts_stream_writes o value = ts_stream_lines.write o value

-- each field fits its bits
pub record Fits (value : TsStream) : Type 0 where
  pub kind : value.kind < 2 ^ 8
  pub packets : value.packets < 2 ^ 13
  pub descriptors_bytes : length value.descriptors < 2 ^ 12
  pub descriptors : All (λ b. b < 256) value.descriptors

-- the number of bits
abbrev pub ts_stream_size : Order → TsStream → ℕ
ts_stream_size o value = ts_stream_lines.size value

-- the format, with the facts that must fit by name
abbrev pub ts_stream_format : OwnFormat TsStreamError TsStream
ts_stream_format = named Fits (format ts_stream_lines (λ s. refl {a = s}))
    (λ s fits. fits.kind & fits.packets & fits.descriptors_bytes & fits.descriptors & refl)

-- the bits of all fields, up to a whole byte
unfoldable pub ts_stream_bits : TsStream → List Bool
ts_stream_bits value = write_sequence (ts_stream_writes High value ++ align ∷ []) 0
