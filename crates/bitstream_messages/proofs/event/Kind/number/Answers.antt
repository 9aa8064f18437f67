-- Made by `./format` from formats/event.fields: edit that file and make this one anew.
use Rattle.std.proofs.Common.{refl}
use Rattle.bitstream_messages.proofs.event.Kind.number.Goals as goal

pub returns-in-Marked : goal.returns-in-Marked
returns-in-Marked c = rw c.in-Marked.is refl

pub returns-in-Acked : goal.returns-in-Acked
returns-in-Acked c = rw c.in-Acked.is refl

pub returns-in-Plain : goal.returns-in-Plain
returns-in-Plain c = rw c.in-Plain.is refl
