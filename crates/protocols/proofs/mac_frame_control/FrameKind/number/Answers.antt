-- Made by `./format` from formats/mac_frame_control.fields: edit that file and make this one anew.
use Rattle.std.proofs.Common.{refl}
use Rattle.protocols.proofs.mac_frame_control.FrameKind.number.Goals as goal

pub returns-in-Beacon : goal.returns-in-Beacon
returns-in-Beacon c = rw c.in-Beacon.is refl

pub returns-in-Data : goal.returns-in-Data
returns-in-Data c = rw c.in-Data.is refl

pub returns-in-Ack : goal.returns-in-Ack
returns-in-Ack c = rw c.in-Ack.is refl

pub returns-in-Command : goal.returns-in-Command
returns-in-Command c = rw c.in-Command.is refl

pub returns-in-Unused : goal.returns-in-Unused
returns-in-Unused c = rw c.in-Unused.is refl

pub returns-in-Multipurpose : goal.returns-in-Multipurpose
returns-in-Multipurpose c = rw c.in-Multipurpose.is refl

pub returns-in-Fragment : goal.returns-in-Fragment
returns-in-Fragment c = rw c.in-Fragment.is refl

pub returns-in-Further : goal.returns-in-Further
returns-in-Further c = rw c.in-Further.is refl
