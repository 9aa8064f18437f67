-- Made by `./format` from formats/extension.fields: edit that file and make this one anew.
use Rattle.bitstream_io.proofs.WriteParts.{all_none}
use Rattle.bitstream_messages.proofs.extension.Body.write.Goals as goal

pub returns-in-ExtendedSecret : goal.returns-in-ExtendedSecret
returns-in-ExtendedSecret g c = rw c.in-ExtendedSecret.is (all_none _ _)
