-- A block of a file (RFC 1350, section 5).
use Rattle.network_messages.specs.declared.tftp_data.TftpData.{TftpData}
use Rattle.network_messages.specs.declared.tftp_data.TftpDataError.{TftpDataError}
use Rattle.network_messages.specs.declared.tftp_data.TftpDataError.TheVariants.{Reader, NoData}
use Rattle.std.proofs.Common.{refl}
use Rattle.bitstream_format.specs.Format.{◌>>=◌, Own as OwnFormat, Parts as FormatParts, format, named, field, const, ◌&◌, own_done}
use Rattle.bitstream_format.specs.Measured.{vec}
use Rattle.std.specs.Prelude.{◌≡◌, ◌^◌, ◌<◌, ◌++◌, ◌∷◌, [], ℕ, Bool, List, Result, Ok, length}
use Rattle.std.specs.List.{All}
use Rattle.bitstream_io.specs.Callers.{Decoder, Encoder, Error, Order, High, align, write_sequence}
use Rattle.bitstream_format.specs.Atoms as atom

-- Made by `./format` from formats/tftp_data.fields: edit that file and make this one anew.

-- an error of the reader is one of the type's
abbrev pub becomes_tftp_data : Error → TftpDataError → Type 0
becomes_tftp_data error own = own ≡ Reader error

-- the lines, in order
abbrev pub tftp_data_lines : ℕ → FormatParts TftpData (Result TftpData TftpDataError) (λ s. Ok s)
tftp_data_lines data_bytes = do
  constant_0 ← const 16 3 refl NoData
  block ← field (atom.unsigned 16 16 refl) (λ s. s.block)
  data_ ← field (vec data_bytes) (λ s. s.data)
  own_done (record { block = block; «data» = data_ })

-- the reads, in order
abbrev pub tftp_data_decoder : Order → ℕ → Decoder (Result TftpData TftpDataError)
tftp_data_decoder o data_bytes = (tftp_data_lines data_bytes).read o

-- the writes, in order
abbrev pub tftp_data_writes : Order → TftpData → List Encoder
tftp_data_writes o value = (tftp_data_lines (length value.data)).write o value

-- each field fits its bits
pub record Fits (value : TftpData) : Type 0 where
  pub block : value.block < 2 ^ 16
  pub data_ : All (λ b. b < 256) value.data

-- the number of bits
abbrev pub tftp_data_size : Order → TftpData → ℕ
tftp_data_size o value = (tftp_data_lines (length value.data)).size value

-- the format, with the facts that must fit by name
abbrev pub tftp_data_format : ℕ → OwnFormat TftpDataError TftpData
tftp_data_format data_bytes = named (λ s. Fits s × (length s.data ≡ data_bytes)) (format (tftp_data_lines data_bytes) (λ
    s. refl {a = s}))
    (λ s fits. fits.0.block & fits.0.data_ & fits.1)

-- the bits of all fields, up to a whole byte
unfoldable pub tftp_data_bits : TftpData → List Bool
tftp_data_bits value = write_sequence (tftp_data_writes High value ++ align ∷ []) 0
