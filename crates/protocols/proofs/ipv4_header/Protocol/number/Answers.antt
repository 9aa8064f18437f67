-- Made by `./format` from formats/ipv4_header.fields: edit that file and make this one anew.
use Rattle.std.proofs.Common.{refl}
use Rattle.protocols.proofs.ipv4_header.Protocol.number.Goals as goal

pub returns-in-Icmp : goal.returns-in-Icmp
returns-in-Icmp c = rw c.in-Icmp.is refl

pub returns-in-Tcp : goal.returns-in-Tcp
returns-in-Tcp c = rw c.in-Tcp.is refl

pub returns-in-Udp : goal.returns-in-Udp
returns-in-Udp c = rw c.in-Udp.is refl

pub returns-in-Other : goal.returns-in-Other
returns-in-Other c = rw c.in-Other.is refl
