-- The value of a `Message` in contracts.
use Rattle.bitstream_messages.specs.declared.message.Body.{Body}
use Rattle.std.specs.Prelude.{ℕ, Bool}

-- Made by `./format` from formats/message.fields: edit that file and make this one anew.

-- the fields, and the items of the lists
pub record MessageFields : Type 0 where
  pub version : ℕ
  pub body : Body
  pub checked : Bool
