-- Made by `./format` from formats/mqtt_header.fields: edit that file and make this one anew.
use Rattle.std.proofs.Common.{refl}
use Rattle.protocols.proofs.mqtt_header.Packet.number.Goals as goal

pub returns-in-Connect : goal.returns-in-Connect
returns-in-Connect c = rw c.in-Connect.is refl

pub returns-in-ConnAck : goal.returns-in-ConnAck
returns-in-ConnAck c = rw c.in-ConnAck.is refl

pub returns-in-Publish : goal.returns-in-Publish
returns-in-Publish c = rw c.in-Publish.is refl

pub returns-in-PubAck : goal.returns-in-PubAck
returns-in-PubAck c = rw c.in-PubAck.is refl

pub returns-in-PubRec : goal.returns-in-PubRec
returns-in-PubRec c = rw c.in-PubRec.is refl

pub returns-in-PubRel : goal.returns-in-PubRel
returns-in-PubRel c = rw c.in-PubRel.is refl

pub returns-in-PubComp : goal.returns-in-PubComp
returns-in-PubComp c = rw c.in-PubComp.is refl

pub returns-in-Subscribe : goal.returns-in-Subscribe
returns-in-Subscribe c = rw c.in-Subscribe.is refl

pub returns-in-SubAck : goal.returns-in-SubAck
returns-in-SubAck c = rw c.in-SubAck.is refl

pub returns-in-Unsubscribe : goal.returns-in-Unsubscribe
returns-in-Unsubscribe c = rw c.in-Unsubscribe.is refl

pub returns-in-UnsubAck : goal.returns-in-UnsubAck
returns-in-UnsubAck c = rw c.in-UnsubAck.is refl

pub returns-in-PingReq : goal.returns-in-PingReq
returns-in-PingReq c = rw c.in-PingReq.is refl

pub returns-in-PingResp : goal.returns-in-PingResp
returns-in-PingResp c = rw c.in-PingResp.is refl

pub returns-in-Disconnect : goal.returns-in-Disconnect
returns-in-Disconnect c = rw c.in-Disconnect.is refl

pub returns-in-Auth : goal.returns-in-Auth
returns-in-Auth c = rw c.in-Auth.is refl
