-- Made by `./format` from formats/dns_header.fields: edit that file and make this one anew.
use Rattle.std.proofs.Common.{refl}
use Rattle.protocols.proofs.dns_header.Code.number.Goals as goal

pub returns-in-NoError : goal.returns-in-NoError
returns-in-NoError c = rw c.in-NoError.is refl

pub returns-in-FormatError : goal.returns-in-FormatError
returns-in-FormatError c = rw c.in-FormatError.is refl

pub returns-in-ServerFailure : goal.returns-in-ServerFailure
returns-in-ServerFailure c = rw c.in-ServerFailure.is refl

pub returns-in-NoSuchName : goal.returns-in-NoSuchName
returns-in-NoSuchName c = rw c.in-NoSuchName.is refl

pub returns-in-NotImplemented : goal.returns-in-NotImplemented
returns-in-NotImplemented c = rw c.in-NotImplemented.is refl

pub returns-in-Refuses : goal.returns-in-Refuses
returns-in-Refuses c = rw c.in-Refuses.is refl

pub returns-in-Other : goal.returns-in-Other
returns-in-Other c = rw c.in-Other.is refl
