-- The value of a `Log` in contracts.
use Rattle.bitstream_messages.specs.declared.ack.Ack.{Ack}
use Rattle.bitstream_messages.specs.declared.mark.Mark.{Mark}
use Rattle.std.specs.Prelude.{List}

-- Made by `./format` from formats/log.fields: edit that file and make this one anew.

-- the fields, and the items of the lists
pub record LogFields : Type 0 where
  pub acks : List Ack
  pub marks : List Mark
