-- Made by `./format` from formats/client_hello.fields: edit that file and make this one anew.
use Rattle.std.proofs.Common.{refl}
use Rattle.bitstream_callers.proofs.client_hello.Compression.number.Goals as goal

pub returns-in-Null : goal.returns-in-Null
returns-in-Null c = rw c.in-Null.is refl

pub returns-in-Deflate : goal.returns-in-Deflate
returns-in-Deflate c = rw c.in-Deflate.is refl
