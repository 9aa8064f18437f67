-- Made by `./format` from formats/icmp_message.fields: edit that file and make this one anew.
use Rattle.std.proofs.Common.{refl}
use Rattle.network_messages.proofs.icmp_message.Echo.number.Goals as goal

pub returns-in-Reply : goal.returns-in-Reply
returns-in-Reply c = rw c.in-Reply.is refl

pub returns-in-Request : goal.returns-in-Request
returns-in-Request c = rw c.in-Request.is refl
