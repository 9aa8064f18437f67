-- Made by `./format` from formats/icmp_header.fields: edit that file and make this one anew.
use Rattle.std.proofs.Common.{refl}
use Rattle.protocols.proofs.icmp_header.Body.number.Goals as goal

pub returns-in-EchoReply : goal.returns-in-EchoReply
returns-in-EchoReply c = rw c.in-EchoReply.is refl

pub returns-in-Redirect : goal.returns-in-Redirect
returns-in-Redirect c = rw c.in-Redirect.is refl

pub returns-in-Echo : goal.returns-in-Echo
returns-in-Echo c = rw c.in-Echo.is refl

pub returns-in-Other : goal.returns-in-Other
returns-in-Other c = rw c.in-Other.is refl
