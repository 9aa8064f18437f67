-- Made by `./format` from formats/signal.fields: edit that file and make this one anew.
use Rattle.std.proofs.Common.{refl}
use Rattle.bitstream_messages.proofs.signal.Reply.number.Goals as goal

pub returns-in-Ack : goal.returns-in-Ack
returns-in-Ack c = rw c.in-Ack.is refl

pub returns-in-Stop : goal.returns-in-Stop
returns-in-Stop c = rw c.in-Stop.is refl

pub returns-in-Other : goal.returns-in-Other
returns-in-Other c = rw c.in-Other.is refl
