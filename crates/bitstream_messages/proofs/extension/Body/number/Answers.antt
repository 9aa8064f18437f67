-- Made by `./format` from formats/extension.fields: edit that file and make this one anew.
use Rattle.std.proofs.Common.{refl}
use Rattle.bitstream_io.specs.Callers.{◌>>=◌}
use Rattle.bitstream_messages.proofs.extension.Body.number.Goals as goal

pub returns-in-ExtendedSecret : goal.returns-in-ExtendedSecret
returns-in-ExtendedSecret c = rw c.in-ExtendedSecret.is refl

pub returns-in-Renegotiation : goal.returns-in-Renegotiation
returns-in-Renegotiation c = rw c.in-Renegotiation.is refl

pub returns-in-Other : goal.returns-in-Other
returns-in-Other c = rw (c.in-Other.is, ← c.it.view_is) refl
