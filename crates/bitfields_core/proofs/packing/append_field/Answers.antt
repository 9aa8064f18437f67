use borrow.Author.Rules.{sfits_of}
use Rattle.std.proofs.Common.{rules, SFits}
use Rattle.std.specs.Int.{w128}
use Rattle.std.proofs.lemmas.Int.{to_z-of_z}
use Rattle.bitfields_core.proofs.packing.append_field.Goals as goal

pub returns-in-Unsigned : goal.returns-in-Unsigned
returns-in-Unsigned g c = rw c.in-Unsigned.is (rw c.first_unsigned.ensures.first at c.write_unsigned_var.ensures.writes)

pub returns-in-Signed : goal.returns-in-Signed
returns-in-Signed g c =
    let fits : SFits w128 c.first_signed.result = search (rules, sfits_of) in
    rw c.in-Signed.is (rw (
      to_z-of_z w128 c.first_signed.result fits,
      c.first_signed.ensures.first,
    ) at c.write_signed_var.ensures.writes)

pub returns-in-Unary : goal.returns-in-Unary
returns-in-Unary g c = rw c.in-Unary.is (rw c.first_unsigned-in-Unary.ensures.first at c.append_run.ensures)

pub returns-in-Variable : goal.returns-in-Variable
returns-in-Variable g c = rw c.in-Variable.is (rw c.first_unsigned-in-Variable.ensures.first at c.append_groups.ensures)

pub returns-in-Lenient : goal.returns-in-Lenient
returns-in-Lenient g c =
    rw c.in-Lenient.is (rw c.first_unsigned-in-Lenient.ensures.first at c.append_groups-in-Lenient.ensures)

pub returns-in-SignedVariable : goal.returns-in-SignedVariable
returns-in-SignedVariable g c =
    let fits : SFits w128 c.first_signed-in-SignedVariable.result = search (rules, sfits_of) in
    rw c.in-SignedVariable.is (rw (
      to_z-of_z w128 c.first_signed-in-SignedVariable.result fits,
      c.first_signed-in-SignedVariable.ensures.first,
    ) at c.append_signed_groups.ensures)

pub returns-in-Constant : goal.returns-in-Constant
returns-in-Constant g c = rw c.in-Constant.is c.write_unsigned_var-in-Constant.ensures.writes

pub returns-in-Padding : goal.returns-in-Padding
returns-in-Padding g c = rw c.in-Padding.is c.pad.ensures.writes

pub returns-in-Align : goal.returns-in-Align
returns-in-Align g c = rw c.in-Align.is c.byte_align.ensures.writes

pub returns-in-Bytes : goal.returns-in-Bytes
returns-in-Bytes g c = rw c.in-Bytes.is (rw c.first_bytes.ensures at c.write_bytes.ensures.writes)
