-- The value of a `Frame` in contracts.
use Rattle.bitstream_messages.specs.declared.frame.Content.{Content}
use Rattle.bitstream_messages.specs.declared.message.Message.{Message}

-- Made by `./format` from formats/frame.fields: edit that file and make this one anew.

-- the fields, and the items of the lists
pub record FrameFields : Type 0 where
  pub body : Content
  pub message : Message
