-- The extension that ties a TLS handshake to an earlier one (RFC 5746).
use Rattle.bitstream_messages.specs.declared.renegotiation.Renegotiation.{Renegotiation}
use Rattle.std.proofs.Common.{refl}
use Rattle.bitstream_format.specs.Format.{◌>>=◌, Own as OwnFormat, Parts as FormatParts, format, named, field, ◌&◌, own_done}
use Rattle.bitstream_format.specs.Lists.{byte_list}
use Rattle.std.specs.Prelude.{◌^◌, ◌<◌, ◌++◌, ◌∷◌, [], ℕ, Bool, List, Result, Ok, length}
use Rattle.std.specs.List.{All}
use Rattle.bitstream_io.specs.Callers.{Decoder, Encoder, Error, Order, High, align, write_sequence}
use Rattle.bitstream_format.specs.Atoms as atom

-- Made by `./format` from formats/renegotiation.fields: edit that file and make this one anew.

-- the lines, in order
abbrev pub renegotiation_lines : FormatParts Renegotiation (Result Renegotiation Error) (λ s. Ok s)
renegotiation_lines = do
  key_count ← field (atom.unsigned 64 8 refl) (λ s. length s.key)
  key ← byte_list key_count (λ s. s.key)
  own_done (record { key = key })

-- the reads, in order
abbrev pub renegotiation_decoder : Order → Decoder (Result Renegotiation Error)
renegotiation_decoder o = renegotiation_lines.read o

-- the writes, in order
abbrev pub renegotiation_writes : Order → Renegotiation → List Encoder
renegotiation_writes o value = renegotiation_lines.write o value

-- each field fits its bits
pub record Fits (value : Renegotiation) : Type 0 where
  pub key_count : length value.key < 2 ^ 8
  pub key : All (λ b. b < 256) value.key

-- the number of bits
abbrev pub renegotiation_size : Order → Renegotiation → ℕ
renegotiation_size o value = renegotiation_lines.size value

-- the format, with the facts that must fit by name
abbrev pub renegotiation_format : OwnFormat Error Renegotiation
renegotiation_format = named Fits (format renegotiation_lines (λ s. (refl, refl {a = s})))
    (λ s fits. fits.key_count & fits.key)

-- the bits of all fields, up to a whole byte
unfoldable pub renegotiation_bits : Renegotiation → List Bool
renegotiation_bits value = write_sequence (renegotiation_writes High value ++ align ∷ []) 0
