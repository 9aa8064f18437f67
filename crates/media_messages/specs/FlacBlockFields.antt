-- The value of a `FlacBlock` in contracts.
use Rattle.media_messages.specs.declared.flac_block.Body.{Body}
use Rattle.std.specs.Prelude.{Bool}

-- Made by `./format` from formats/flac_block.fields: edit that file and make this one anew.

-- the fields, and the items of the lists
pub record FlacBlockFields : Type 0 where
  pub last : Bool
  pub body : Body
