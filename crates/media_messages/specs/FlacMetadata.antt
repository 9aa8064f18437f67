-- The metadata before the frames of a FLAC file (RFC 9639, 8).
use Rattle.media_messages.specs.declared.flac_metadata.FlacMetadata.{FlacMetadata}
use Rattle.media_messages.specs.declared.flac_metadata.FlacMetadataError.{FlacMetadataError}
use Rattle.media_messages.specs.declared.flac_metadata.FlacMetadataError.TheVariants.{Reader, NotFlac, InFlacBlock}
use Rattle.media_messages.specs.declared.flac_block.FlacBlock.{FlacBlock}
use Rattle.media_messages.specs.declared.flac_block.FlacBlockError.{FlacBlockError}
use Rattle.media_messages.specs.declared.flac_block.FlacBlockError.TheVariants.{Reader as FlacBlockReader, OtherSize as FlacBlockOtherSize}
use Rattle.media_messages.specs.FlacBlock.{flac_block_decoder, flac_block_format, Fits as FlacBlockFits}
use Rattle.std.proofs.Common.{refl}
use Rattle.bitstream_format.specs.Format.{◌>>=◌, Own as OwnFormat, Parts as FormatParts, format, named, own_field, const, ◌&◌, own_done}
use Rattle.bitstream_format.specs.Lists.{with_error, error_of, up_to_last}
use Rattle.std.specs.Prelude.{◌≡◌, ◌^◌, ◌≤◌, ◌++◌, ◌∷◌, [], ℕ, Bool, List, Result, Ok, length}
use Rattle.std.specs.List.{All}
use Rattle.bitstream_io.specs.Callers.{Decoder, Encoder, pure, Error, Order, High, and_then, align, write_sequence}
use Rattle.bitstream_format.specs.UpToLast.{EndsOnce}

-- Made by `./format` from formats/flac_metadata.fields: edit that file and make this one anew.

-- an error of the reader is one of the type's
abbrev pub becomes_flac_metadata : Error → FlacMetadataError → Type 0
becomes_flac_metadata error own = own ≡ Reader error

-- an error of a `FlacBlock`, as an error of the type
abbrev pub flac_block_error : FlacBlockError → FlacMetadataError
flac_block_error (FlacBlockReader error) = Reader error
flac_block_error FlacBlockOtherSize = InFlacBlock FlacBlockOtherSize

-- a result with these errors
abbrev pub flac_block_answer : Result FlacBlock FlacBlockError → Result FlacBlock FlacMetadataError
flac_block_answer = error_of flac_block_error

-- the reads of a `FlacBlock`, with the errors of the type
abbrev pub flac_block_here : Order → Decoder (Result FlacBlock FlacMetadataError)
flac_block_here o = and_then (flac_block_decoder o) (λ answer. pure (flac_block_answer answer))

-- true for the last part of `blocks`, which has `last`
abbrev pub blocks_last : FlacBlock → Bool
blocks_last it = it.last

-- the lines, in order
abbrev pub flac_metadata_lines : FormatParts FlacMetadata (Result FlacMetadata FlacMetadataError) (λ s. Ok s)
flac_metadata_lines = do
  constant_0 ← const 32 1716281667 refl NotFlac
  blocks ← own_field (up_to_last blocks_last (with_error flac_block_error flac_block_format)) (λ s. s.blocks)
  own_done (record { blocks = blocks })

-- the reads, in order
abbrev pub flac_metadata_decoder : Order → Decoder (Result FlacMetadata FlacMetadataError)
flac_metadata_decoder o = flac_metadata_lines.read o

-- the writes, in order
abbrev pub flac_metadata_writes : Order → FlacMetadata → List Encoder
flac_metadata_writes o value = flac_metadata_lines.write o value

-- each field fits its bits
pub record Fits (value : FlacMetadata) : Type 0 where
  pub blocks : All FlacBlockFits value.blocks
  pub blocks_once : EndsOnce blocks_last value.blocks
  pub blocks_most : length value.blocks ≤ 2 ^ 32

-- the number of bits
abbrev pub flac_metadata_size : Order → FlacMetadata → ℕ
flac_metadata_size o value = flac_metadata_lines.size value

-- the format, with the facts that must fit by name
abbrev pub flac_metadata_format : OwnFormat FlacMetadataError FlacMetadata
flac_metadata_format = named Fits (format flac_metadata_lines (λ s. refl {a = s}))
    (λ s fits. fits.blocks & fits.blocks_once & fits.blocks_most)

-- the bits of all fields, up to a whole byte
unfoldable pub flac_metadata_bits : FlacMetadata → List Bool
flac_metadata_bits value = write_sequence (flac_metadata_writes High value ++ align ∷ []) 0
