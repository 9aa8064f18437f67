-- A STREAM frame of QUIC that states its length, with an offset (RFC 9000, section 19.8).
use Rattle.network_messages.specs.declared.quic_stream.QuicStream.{QuicStream}
use Rattle.network_messages.specs.declared.quic_stream.QuicStreamError.{QuicStreamError}
use Rattle.network_messages.specs.declared.quic_stream.QuicStreamError.TheVariants.{Reader, OtherFrame}
use Rattle.std.proofs.Common.{refl}
use Rattle.bitstream_format.specs.Format.{◌>>=◌, Own as OwnFormat, Parts as FormatParts, format, named, field, const, ◌&◌, own_done}
use Rattle.bitstream_format.specs.Measured.{varint, vec}
use Rattle.std.specs.Prelude.{◌≡◌, ◌^◌, ◌<◌, ◌++◌, ◌∷◌, [], ℕ, Bool, List, Result, Ok, length}
use Rattle.std.specs.List.{All}
use Rattle.bitstream_io.specs.Callers.{Decoder, Encoder, Error, Order, High, align, write_sequence}
use Rattle.bitstream_format.specs.Atoms as atom

-- Made by `./format` from formats/quic_stream.fields: edit that file and make this one anew.

-- an error of the reader is one of the type's
abbrev pub becomes_quic_stream : Error → QuicStreamError → Type 0
becomes_quic_stream error own = own ≡ Reader error

-- the lines, in order
abbrev pub quic_stream_lines : FormatParts QuicStream (Result QuicStream QuicStreamError) (λ s. Ok s)
quic_stream_lines = do
  constant_0 ← const 7 7 refl OtherFrame
  last ← field atom.bool (λ s. s.last)
  stream ← field varint (λ s. s.stream)
  offset ← field varint (λ s. s.offset)
  data_bytes ← field varint (λ s. length s.data)
  data_ ← field (vec data_bytes) (λ s. s.data)
  own_done (record { last = last; stream = stream; offset = offset; «data» = data_ })

-- the reads, in order
abbrev pub quic_stream_decoder : Order → Decoder (Result QuicStream QuicStreamError)
quic_stream_decoder o = quic_stream_lines.read o

-- the writes, in order
abbrev pub quic_stream_writes : Order → QuicStream → List Encoder
quic_stream_writes o value = quic_stream_lines.write o value

-- each field fits its bits
pub record Fits (value : QuicStream) : Type 0 where
  pub stream : value.stream < 2 ^ 62
  pub offset : value.offset < 2 ^ 62
  pub data_bytes : length value.data < 2 ^ 62
  pub data_ : All (λ b. b < 256) value.data

-- the number of bits
abbrev pub quic_stream_size : Order → QuicStream → ℕ
quic_stream_size o value = quic_stream_lines.size value

-- the format, with the facts that must fit by name
abbrev pub quic_stream_format : OwnFormat QuicStreamError QuicStream
quic_stream_format = named Fits (format quic_stream_lines (λ s. refl {a = s}))
    (λ s fits. fits.stream & fits.offset & fits.data_bytes & fits.data_ & refl)

-- the bits of all fields, up to a whole byte
unfoldable pub quic_stream_bits : QuicStream → List Bool
quic_stream_bits value = write_sequence (quic_stream_writes High value ++ align ∷ []) 0
