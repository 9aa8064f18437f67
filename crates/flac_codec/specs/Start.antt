-- The start of a file of any reader: the marker, and blocks of metadata of which the first is STREAMINFO.
use Rattle.std.specs.Prelude.{Bool, true, List, ℕ, if◌then◌else◌, length, drop, Option, None, Some, Result, Ok, Err}
use Rattle.flac_codec.specs.File.{has_marker, info_at, metadata_at, metadata_end}
use Rattle.flac_codec.specs.Frame.{after}
use Rattle.flac_codec.specs.Input.{bytes_left, fetched}
use Rattle.flac_codec.specs.declared.error.FlacError.{FlacError}
use Rattle.flac_codec.specs.declared.error.FlacError.TheVariants.{NoFlac}
use Rattle.flac_codec.specs.declared.metadata.Metadata.{Metadata}
use Rattle.flac_codec.specs.declared.start.MetadataReader.{MetadataReader}
use Rattle.flac_codec.specs.declared.stream_info.StreamInfo.{StreamInfo}

-- the marker at the start of bytes
abbrev pub marker_at : List ℕ → Result (Unit {0}) FlacError
marker_at bytes = if has_marker bytes then Ok tt else Err NoFlac

-- the next block of metadata, or none after the last one
abbrev pub block_left : Bool → List ℕ → Result (Option Metadata) FlacError
block_left done bytes = if done then Ok None else after (metadata_at bytes) (λ block. Ok (Some block))

-- the number of bytes of a block
abbrev pub block_size : Option Metadata → ℕ
block_size (Some block) = block.size
block_size None = 0

-- no block follows this one
abbrev pub is_last : Option Metadata → Bool
is_last (Some block) = block.last
is_last None = true

-- the bytes after the blocks of metadata that are left, or these bytes after the last block
abbrev pub frames_left : Bool → List ℕ → Result (List ℕ) FlacError
frames_left done bytes = metadata_end (length bytes) done bytes

-- STREAMINFO of a file, and the bytes after its metadata
abbrev pub start_at : List ℕ → Result (StreamInfo × List ℕ) FlacError
start_at bytes =
    after (info_at bytes) (λ (info, last). after (frames_left last (drop 42 bytes)) (λ frames. Ok (info, frames)))

-- STREAMINFO, and the bytes left, which are known
abbrev pub with_left : Result (StreamInfo × List ℕ) FlacError → Result (StreamInfo × Option (List ℕ)) FlacError
with_left (Ok (info, bytes)) = Ok (info, Some bytes)
with_left (Err error) = Err error

-- ---- a reader of metadata: what its calls state of it

-- the STREAMINFO of the file
abbrev pub metadata_info : {R : Type 0} → MetadataReader R → StreamInfo
metadata_info metadata = metadata.info

-- no block is left
abbrev pub metadata_done : {R : Type 0} → MetadataReader R → Bool
metadata_done metadata = metadata.done

-- the bytes left of the file, if they are known
abbrev pub metadata_left : {R : Type 0} → (R → Option (List ℕ)) → MetadataReader R → Option (List ℕ)
metadata_left remaining metadata = bytes_left remaining metadata.input

-- the bytes that were fetched after the last block that was taken
abbrev pub metadata_fetched : {R : Type 0} → MetadataReader R → List ℕ
metadata_fetched metadata = fetched metadata.input
