-- Made by `./format` from formats/ntp_packet.fields: edit that file and make this one anew.
use Rattle.std.proofs.Common.{refl}
use Rattle.protocols.proofs.ntp_packet.Mode.number.Goals as goal

pub returns-in-Reserved : goal.returns-in-Reserved
returns-in-Reserved c = rw c.in-Reserved.is refl

pub returns-in-Active : goal.returns-in-Active
returns-in-Active c = rw c.in-Active.is refl

pub returns-in-Passive : goal.returns-in-Passive
returns-in-Passive c = rw c.in-Passive.is refl

pub returns-in-Client : goal.returns-in-Client
returns-in-Client c = rw c.in-Client.is refl

pub returns-in-Server : goal.returns-in-Server
returns-in-Server c = rw c.in-Server.is refl

pub returns-in-Broadcast : goal.returns-in-Broadcast
returns-in-Broadcast c = rw c.in-Broadcast.is refl

pub returns-in-Control : goal.returns-in-Control
returns-in-Control c = rw c.in-Control.is refl

pub returns-in-Private : goal.returns-in-Private
returns-in-Private c = rw c.in-Private.is refl
