-- Made by `./format` from formats/eapol_packet.fields: edit that file and make this one anew.
use Rattle.std.proofs.Common.{refl}
use Rattle.network_messages.proofs.eapol_packet.EapCode.number.Goals as goal

pub returns-in-Request : goal.returns-in-Request
returns-in-Request c = rw c.in-Request.is refl

pub returns-in-Response : goal.returns-in-Response
returns-in-Response c = rw c.in-Response.is refl

pub returns-in-Success : goal.returns-in-Success
returns-in-Success c = rw c.in-Success.is refl

pub returns-in-Failure : goal.returns-in-Failure
returns-in-Failure c = rw c.in-Failure.is refl
