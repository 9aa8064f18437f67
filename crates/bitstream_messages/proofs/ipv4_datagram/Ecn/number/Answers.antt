-- Made by `./format` from formats/ipv4_datagram.fields: edit that file and make this one anew.
use Rattle.std.proofs.Common.{refl}
use Rattle.bitstream_messages.proofs.ipv4_datagram.Ecn.number.Goals as goal

pub returns-in-NotCapable : goal.returns-in-NotCapable
returns-in-NotCapable c = rw c.in-NotCapable.is refl

pub returns-in-Ect1 : goal.returns-in-Ect1
returns-in-Ect1 c = rw c.in-Ect1.is refl

pub returns-in-Ect0 : goal.returns-in-Ect0
returns-in-Ect0 c = rw c.in-Ect0.is refl

pub returns-in-Congested : goal.returns-in-Congested
returns-in-Congested c = rw c.in-Congested.is refl
