-- Made by `./format` from formats/ts_header.fields: edit that file and make this one anew.
use Rattle.std.proofs.Common.{refl}
use Rattle.protocols.proofs.ts_header.Adaptation.number.Goals as goal

pub returns-in-Payload : goal.returns-in-Payload
returns-in-Payload c = rw c.in-Payload.is refl

pub returns-in-Field : goal.returns-in-Field
returns-in-Field c = rw c.in-Field.is refl

pub returns-in-Both : goal.returns-in-Both
returns-in-Both c = rw c.in-Both.is refl
