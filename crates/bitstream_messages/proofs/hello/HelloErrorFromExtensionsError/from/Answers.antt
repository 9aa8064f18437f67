-- Made by `./format` from formats/hello.fields: edit that file and make this one anew.
use Rattle.std.proofs.Common.{refl}
use Rattle.bitstream_messages.proofs.hello.HelloErrorFromExtensionsError.from.Goals as goal

pub returns-in-Reader : goal.returns-in-Reader
returns-in-Reader c = rw c.in-Reader.is refl

pub returns-in-Overlong : goal.returns-in-Overlong
returns-in-Overlong c = rw c.in-Overlong.is refl

pub returns-in-InExtension : goal.returns-in-InExtension
returns-in-InExtension c = rw c.in-InExtension.is refl
