-- Made by `./format` from formats/ts_pat.fields: edit that file and make this one anew.
use Rattle.std.proofs.Common.{refl}
use Rattle.media_messages.proofs.ts_pat.TsPatErrorFromTsProgramError.from.Goals as goal

pub returns-in-Reader : goal.returns-in-Reader
returns-in-Reader c = rw c.in-Reader.is refl

pub returns-in-ZeroReserved : goal.returns-in-ZeroReserved
returns-in-ZeroReserved c = rw c.in-ZeroReserved.is refl
