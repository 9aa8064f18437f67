-- Made by `./format` from formats/tftp_request.fields: edit that file and make this one anew.
use Rattle.std.proofs.Common.{refl}
use Rattle.network_messages.proofs.tftp_request.Request.number.Goals as goal

pub returns-in-Read : goal.returns-in-Read
returns-in-Read c = rw c.in-Read.is refl

pub returns-in-Write : goal.returns-in-Write
returns-in-Write c = rw c.in-Write.is refl
