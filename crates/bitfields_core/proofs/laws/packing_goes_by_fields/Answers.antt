use Rattle.std.proofs.Common.{append-nil}
use Rattle.bitfields_core.proofs.FieldCalls.{packed-word, packed-number, packed-align}
use Rattle.bitfields_core.proofs.laws.packing_goes_by_fields.Goals as goal

pub returns-clause-word : goal.returns-clause-word
returns-clause-word c = packed-word

pub returns-clause-number : goal.returns-clause-number
returns-clause-number c = packed-number

pub returns-clause-align : goal.returns-clause-align
returns-clause-align c = packed-align

pub returns-clause-end : goal.returns-clause-end
returns-clause-end c = λ o at. append-nil _
