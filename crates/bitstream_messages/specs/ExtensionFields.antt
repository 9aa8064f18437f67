-- The value of an `Extension` in contracts.
use Rattle.bitstream_messages.specs.declared.extension.Body.{Body}

-- Made by `./format` from formats/extension.fields: edit that file and make this one anew.

-- the fields, and the items of the lists
pub record ExtensionFields : Type 0 where
  pub body : Body
