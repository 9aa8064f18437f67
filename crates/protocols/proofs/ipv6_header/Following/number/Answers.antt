-- Made by `./format` from formats/ipv6_header.fields: edit that file and make this one anew.
use Rattle.std.proofs.Common.{refl}
use Rattle.protocols.proofs.ipv6_header.Following.number.Goals as goal

pub returns-in-HopByHop : goal.returns-in-HopByHop
returns-in-HopByHop c = rw c.in-HopByHop.is refl

pub returns-in-Tcp : goal.returns-in-Tcp
returns-in-Tcp c = rw c.in-Tcp.is refl

pub returns-in-Udp : goal.returns-in-Udp
returns-in-Udp c = rw c.in-Udp.is refl

pub returns-in-Routing : goal.returns-in-Routing
returns-in-Routing c = rw c.in-Routing.is refl

pub returns-in-Fragment : goal.returns-in-Fragment
returns-in-Fragment c = rw c.in-Fragment.is refl

pub returns-in-Icmp : goal.returns-in-Icmp
returns-in-Icmp c = rw c.in-Icmp.is refl

pub returns-in-Other : goal.returns-in-Other
returns-in-Other c = rw c.in-Other.is refl
