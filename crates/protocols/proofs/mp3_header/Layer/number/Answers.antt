-- Made by `./format` from formats/mp3_header.fields: edit that file and make this one anew.
use Rattle.std.proofs.Common.{refl}
use Rattle.protocols.proofs.mp3_header.Layer.number.Goals as goal

pub returns-in-LayerThree : goal.returns-in-LayerThree
returns-in-LayerThree c = rw c.in-LayerThree.is refl

pub returns-in-LayerTwo : goal.returns-in-LayerTwo
returns-in-LayerTwo c = rw c.in-LayerTwo.is refl

pub returns-in-LayerOne : goal.returns-in-LayerOne
returns-in-LayerOne c = rw c.in-LayerOne.is refl
