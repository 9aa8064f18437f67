-- Made by `./format` from formats/event.fields: edit that file and make this one anew.
use Rattle.bitstream_io.proofs.WriteParts.{all_none}
use Rattle.bitstream_messages.proofs.event.What.write.Goals as goal

pub returns-in-Plain : goal.returns-in-Plain
returns-in-Plain g c = rw c.in-Plain.is (all_none _ _)
