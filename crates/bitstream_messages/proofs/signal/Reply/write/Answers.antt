-- Made by `./format` from formats/signal.fields: edit that file and make this one anew.
use Rattle.bitstream_io.proofs.WriteParts.{all_none}
use Rattle.bitstream_messages.proofs.signal.Reply.write.Goals as goal

pub returns-in-Stop : goal.returns-in-Stop
returns-in-Stop g c = rw c.in-Stop.is (all_none _ _)

pub returns-in-Other : goal.returns-in-Other
returns-in-Other g c = rw c.in-Other.is (all_none _ _)
