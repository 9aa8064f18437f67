-- Made by `./format` from formats/frame.fields: edit that file and make this one anew.
use Rattle.std.proofs.Common.{refl}
use Rattle.bitstream_messages.proofs.frame.Content.number.Goals as goal

pub returns-in-Ack : goal.returns-in-Ack
returns-in-Ack c = rw c.in-Ack.is refl

pub returns-in-Notes : goal.returns-in-Notes
returns-in-Notes c = rw c.in-Notes.is refl

pub returns-in-Empty : goal.returns-in-Empty
returns-in-Empty c = rw c.in-Empty.is refl
