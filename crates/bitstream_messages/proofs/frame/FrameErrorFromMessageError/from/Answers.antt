-- Made by `./format` from formats/frame.fields: edit that file and make this one anew.
use Rattle.std.proofs.Common.{refl}
use Rattle.bitstream_messages.proofs.frame.FrameErrorFromMessageError.from.Goals as goal

pub returns-in-Reader : goal.returns-in-Reader
returns-in-Reader c = rw c.in-Reader.is refl

pub returns-in-NoBody : goal.returns-in-NoBody
returns-in-NoBody c = rw c.in-NoBody.is refl

pub returns-in-InMark : goal.returns-in-InMark
returns-in-InMark c = rw c.in-InMark.is refl
