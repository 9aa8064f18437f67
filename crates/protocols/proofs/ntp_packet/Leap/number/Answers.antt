-- Made by `./format` from formats/ntp_packet.fields: edit that file and make this one anew.
use Rattle.std.proofs.Common.{refl}
use Rattle.protocols.proofs.ntp_packet.Leap.number.Goals as goal

pub returns-in-NoWarning : goal.returns-in-NoWarning
returns-in-NoWarning c = rw c.in-NoWarning.is refl

pub returns-in-LongMinute : goal.returns-in-LongMinute
returns-in-LongMinute c = rw c.in-LongMinute.is refl

pub returns-in-ShortMinute : goal.returns-in-ShortMinute
returns-in-ShortMinute c = rw c.in-ShortMinute.is refl

pub returns-in-Unsynchronized : goal.returns-in-Unsynchronized
returns-in-Unsynchronized c = rw c.in-Unsynchronized.is refl
