-- Made by `./format` from formats/ethernet_header.fields: edit that file and make this one anew.
use Rattle.std.proofs.Common.{refl}
use Rattle.protocols.proofs.ethernet_header.EtherType.number.Goals as goal

pub returns-in-Ipv4 : goal.returns-in-Ipv4
returns-in-Ipv4 c = rw c.in-Ipv4.is refl

pub returns-in-Arp : goal.returns-in-Arp
returns-in-Arp c = rw c.in-Arp.is refl

pub returns-in-Vlan : goal.returns-in-Vlan
returns-in-Vlan c = rw c.in-Vlan.is refl

pub returns-in-Ipv6 : goal.returns-in-Ipv6
returns-in-Ipv6 c = rw c.in-Ipv6.is refl

pub returns-in-Other : goal.returns-in-Other
returns-in-Other c = rw c.in-Other.is refl
