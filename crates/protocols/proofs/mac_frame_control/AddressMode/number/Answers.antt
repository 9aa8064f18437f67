-- Made by `./format` from formats/mac_frame_control.fields: edit that file and make this one anew.
use Rattle.std.proofs.Common.{refl}
use Rattle.protocols.proofs.mac_frame_control.AddressMode.number.Goals as goal

pub returns-in-Absent : goal.returns-in-Absent
returns-in-Absent c = rw c.in-Absent.is refl

pub returns-in-Reserved : goal.returns-in-Reserved
returns-in-Reserved c = rw c.in-Reserved.is refl

pub returns-in-Short : goal.returns-in-Short
returns-in-Short c = rw c.in-Short.is refl

pub returns-in-Extended : goal.returns-in-Extended
returns-in-Extended c = rw c.in-Extended.is refl
