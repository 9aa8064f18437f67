-- Made by `./format` from formats/signal.fields: edit that file and make this one anew.
use Rattle.std.proofs.Common.{refl}
use Rattle.bitstream_messages.proofs.signal.Tail.number.Goals as goal

pub returns-in-Nothing : goal.returns-in-Nothing
returns-in-Nothing c = rw c.in-Nothing.is refl

pub returns-in-Late : goal.returns-in-Late
returns-in-Late c = rw c.in-Late.is refl
