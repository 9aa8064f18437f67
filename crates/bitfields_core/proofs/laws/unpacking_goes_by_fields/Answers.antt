use Rattle.bitfields_core.specs.Unpacking.{field_read}
use Rattle.bitfields_core.proofs.FieldCalls.{says-first, says-told, says-refused, says-short, unpacked-word, unpacked-number, unpacked-align, unpacked-constant, unpacked-differs, unpacked-few, unpacked-few_to_align, unpacked-few_for_constant}
use Rattle.bitfields_core.proofs.laws.unpacking_goes_by_fields.Goals as goal

pub returns-clause-word : goal.returns-clause-word
returns-clause-word c = unpacked-word

pub returns-clause-value : goal.returns-clause-value
returns-clause-value c = says-first field_read

pub returns-clause-reason : goal.returns-clause-reason
returns-clause-reason c = says-told field_read

pub returns-clause-error : goal.returns-clause-error
returns-clause-error c = says-refused field_read

pub returns-clause-incomplete : goal.returns-clause-incomplete
returns-clause-incomplete c = says-short field_read

pub returns-clause-number : goal.returns-clause-number
returns-clause-number c = unpacked-number

pub returns-clause-align : goal.returns-clause-align
returns-clause-align c = unpacked-align

pub returns-clause-constant : goal.returns-clause-constant
returns-clause-constant c = unpacked-constant

pub returns-clause-constant_differs : goal.returns-clause-constant_differs
returns-clause-constant_differs c = unpacked-differs

pub returns-clause-few : goal.returns-clause-few
returns-clause-few c = unpacked-few

pub returns-clause-few_to_align : goal.returns-clause-few_to_align
returns-clause-few_to_align c = unpacked-few_to_align

pub returns-clause-few_for_constant : goal.returns-clause-few_for_constant
returns-clause-few_for_constant c = unpacked-few_for_constant
