-- Made by `./format` from formats/flac_block.fields: edit that file and make this one anew.
use Rattle.std.proofs.Common.{refl}
use Rattle.bitstream_io.specs.Callers.{◌>>=◌}
use Rattle.media_messages.proofs.flac_block.Body.number.Goals as goal

pub returns-in-Info : goal.returns-in-Info
returns-in-Info c = rw c.in-Info.is refl

pub returns-in-Other : goal.returns-in-Other
returns-in-Other c = rw (c.in-Other.is, ← c.it.view_is) refl
