-- Made by `./format` from formats/log.fields: edit that file and make this one anew.
use Rattle.std.proofs.Common.{refl}
use Rattle.bitstream_messages.proofs.log.LogErrorFromMarkError.from.Goals as goal

pub returns-in-Reader : goal.returns-in-Reader
returns-in-Reader c = rw c.in-Reader.is refl

pub returns-in-NoMark : goal.returns-in-NoMark
returns-in-NoMark c = rw c.in-NoMark.is refl
