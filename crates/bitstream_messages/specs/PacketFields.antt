-- The value of a `Packet` in contracts.
use Rattle.bitstream_messages.specs.declared.notes.Notes.{Notes}
use Rattle.bitstream_messages.specs.declared.ack.Ack.{Ack}
use Rattle.std.specs.Prelude.{ℕ}

-- Made by `./format` from formats/packet.fields: edit that file and make this one anew.

-- the fields, and the items of the lists
pub record PacketFields : Type 0 where
  pub notes : Notes
  pub ack : Ack
  pub end : ℕ
