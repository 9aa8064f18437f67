-- Made by `./format` from formats/mp3_header.fields: edit that file and make this one anew.
use Rattle.std.proofs.Common.{refl}
use Rattle.protocols.proofs.mp3_header.Version.number.Goals as goal

pub returns-in-Mpeg25 : goal.returns-in-Mpeg25
returns-in-Mpeg25 c = rw c.in-Mpeg25.is refl

pub returns-in-Mpeg2 : goal.returns-in-Mpeg2
returns-in-Mpeg2 c = rw c.in-Mpeg2.is refl

pub returns-in-Mpeg1 : goal.returns-in-Mpeg1
returns-in-Mpeg1 c = rw c.in-Mpeg1.is refl
