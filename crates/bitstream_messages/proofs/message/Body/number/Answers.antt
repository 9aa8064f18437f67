-- Made by `./format` from formats/message.fields: edit that file and make this one anew.
use Rattle.std.proofs.Common.{refl}
use Rattle.bitstream_messages.proofs.message.Body.number.Goals as goal

pub returns-in-Ack : goal.returns-in-Ack
returns-in-Ack c = rw c.in-Ack.is refl

pub returns-in-First : goal.returns-in-First
returns-in-First c = rw c.in-First.is refl

pub returns-in-Stop : goal.returns-in-Stop
returns-in-Stop c = rw c.in-Stop.is refl

pub returns-in-Mark : goal.returns-in-Mark
returns-in-Mark c = rw c.in-Mark.is refl
