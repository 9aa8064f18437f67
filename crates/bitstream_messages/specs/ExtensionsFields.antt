-- The value of an `Extensions` in contracts.
use Rattle.bitstream_messages.specs.declared.extension.Extension.{Extension}
use Rattle.std.specs.Prelude.{List}

-- Made by `./format` from formats/extensions.fields: edit that file and make this one anew.

-- the fields, and the items of the lists
pub record ExtensionsFields : Type 0 where
  pub items : List Extension
