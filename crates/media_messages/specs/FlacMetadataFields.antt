-- The value of a `FlacMetadata` in contracts.
use Rattle.media_messages.specs.declared.flac_block.FlacBlock.{FlacBlock}
use Rattle.std.specs.Prelude.{List}

-- Made by `./format` from formats/flac_metadata.fields: edit that file and make this one anew.

-- the fields, and the items of the lists
pub record FlacMetadataFields : Type 0 where
  pub blocks : List FlacBlock
