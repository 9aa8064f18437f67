use borrow.Author.Rules.{sfits_of}
use Rattle.std.proofs.Common.{rules, ℕ, ◌≡◌, ◌∙◌, SFits, to_z, of_z, Option, Result, Ok, Err, Some, None, length, arith}
use Rattle.std.specs.Prelude.{◌==◌, if◌then◌else◌}
use Rattle.std.specs.Int.{w64, w128}
use Rattle.std.proofs.lemmas.Grind.{common_steps}
use Rattle.std.proofs.lemmas.Int.{to_z-of_z}
use Rattle.bitfields_core.specs.declared.fault.Reason.{Reason}
use Rattle.bitfields_core.specs.declared.fault.Reason.TheVariants.{ConstantDiffers}
use Rattle.bitfields_core.specs.declared.field_value.FieldValue.{FieldValue}
use Rattle.bitfields_core.specs.declared.field_value.FieldValue.TheVariants as Value
use Rattle.bitfields_core.proofs.FieldAnswers.{answers, stops}
use Rattle.bitfields_core.proofs.unpacking.unpack_field.Goals as goal

-- what a constant answers of a number
constant_of : ℕ → ℕ → Result (Option FieldValue) Reason
constant_of v u = if u == v then Ok None else Err ConstantDiffers

pub returns-in_err-value-in-Unsigned : goal.returns-in_err-value-in-Unsigned
returns-in_err-value-in-Unsigned g c =
    rw c.in-Unsigned.is (stops (λ v. Ok (Some (Value.Unsigned v))) c.from_residual.ensures.1
    c.in_err-value-in-Unsigned.ensures.reads)

pub returns-in_ok-value-in-Unsigned : goal.returns-in_ok-value-in-Unsigned
returns-in_ok-value-in-Unsigned g c =
    rw c.in-Unsigned.is (answers (λ v. Ok (Some (Value.Unsigned v))) c.in_ok-value-in-Unsigned.ensures.reads)

pub returns-in_err-value-in-Signed : goal.returns-in_err-value-in-Signed
returns-in_err-value-in-Signed g c =
    rw c.in-Signed.is (stops (λ v. Ok (Some (Value.Signed v))) c.from_residual-in_err-value-in-Signed.ensures.1
    c.in_err-value-in-Signed.ensures.reads)

pub returns-in_ok-value-in-Signed : goal.returns-in_ok-value-in-Signed
returns-in_ok-value-in-Signed g c =
    let value = c.in_ok-value-in-Signed.value in
    let fits : SFits w128 value = search (rules, sfits_of) in
    rw (c.in-Signed.is, to_z-of_z w128 value fits) (answers (λ v. Ok (Some (Value.Signed v)))
    c.in_ok-value-in-Signed.ensures.reads)

pub returns-in_err-value-in-Unary : goal.returns-in_err-value-in-Unary
returns-in_err-value-in-Unary g c =
    rw c.in-Unary.is (stops (λ v. Ok (Some (Value.Unsigned v))) c.from_residual-in_err-value-in-Unary.ensures.1
    c.in_err-value-in-Unary.ensures)

pub returns-in_ok-value-in-Unary : goal.returns-in_ok-value-in-Unary
returns-in_ok-value-in-Unary g c =
    rw c.in-Unary.is (answers (λ v. Ok (Some (Value.Unsigned v))) c.in_ok-value-in-Unary.ensures)

pub returns-in_err-value-in-Variable : goal.returns-in_err-value-in-Variable
returns-in_err-value-in-Variable g c =
    rw c.in-Variable.is (stops (λ v. Ok (Some (Value.Unsigned v))) c.from_residual-in_err-value-in-Variable.ensures.1
    c.in_err-value-in-Variable.ensures)

pub returns-in_ok-value-in-Variable : goal.returns-in_ok-value-in-Variable
returns-in_ok-value-in-Variable g c =
    rw c.in-Variable.is (answers (λ v. Ok (Some (Value.Unsigned v))) c.in_ok-value-in-Variable.ensures)

pub returns-in_err-value-in-Lenient : goal.returns-in_err-value-in-Lenient
returns-in_err-value-in-Lenient g c =
    rw c.in-Lenient.is (stops (λ v. Ok (Some (Value.Unsigned v))) c.from_residual-in_err-value-in-Lenient.ensures.1
    c.in_err-value-in-Lenient.ensures)

pub returns-in_ok-value-in-Lenient : goal.returns-in_ok-value-in-Lenient
returns-in_ok-value-in-Lenient g c =
    rw c.in-Lenient.is (answers (λ v. Ok (Some (Value.Unsigned v))) c.in_ok-value-in-Lenient.ensures)

pub returns-in_err-value-in-SignedVariable : goal.returns-in_err-value-in-SignedVariable
returns-in_err-value-in-SignedVariable g c =
    rw c.in-SignedVariable.is (stops (λ v. Ok (Some (Value.Signed v)))
    c.from_residual-in_err-value-in-SignedVariable.ensures.1
    c.in_err-value-in-SignedVariable.ensures)

pub returns-in_ok-value-in-SignedVariable : goal.returns-in_ok-value-in-SignedVariable
returns-in_ok-value-in-SignedVariable g c =
    let value = c.in_ok-value-in-SignedVariable.value in
    let fits : SFits w64 value = search (rules, sfits_of) in
    let wide : SFits w128 c.widened.result = search (rules, sfits_of) in
    let same : to_z w128 (of_z w128 c.widened.result) ≡ value = to_z-of_z w128 c.widened.result wide ∙ c.widened.ensures
    ∙ to_z-of_z w64 value fits in
    rw (c.in-SignedVariable.is, same) (answers (λ v. Ok (Some (Value.Signed v)))
    c.in_ok-value-in-SignedVariable.ensures)

pub returns-in_err-read_bytes-in-Bytes : goal.returns-in_err-read_bytes-in-Bytes
returns-in_err-read_bytes-in-Bytes g c =
    let whole = c.as_mut_slice.ensures.value in
    let size : length c.as_mut_slice.result.now ≡ c.in-Bytes.field-0 = search rules in
    rw c.in-Bytes.is (stops (λ bytes. Ok (Some (Value.Bytes bytes)))
    c.from_residual-in_err-read_bytes-in-Bytes.ensures.1
    (rw size at c.in_err-read_bytes-in-Bytes.ensures.reads))

pub returns-in_ok-read_bytes-in-Bytes : goal.returns-in_ok-read_bytes-in-Bytes
returns-in_ok-read_bytes-in-Bytes g c =
    let size : length c.as_mut_slice.result.now ≡ c.in-Bytes.field-0 = search rules in
    let bytes : c.new.result ≡ c.read_bytes.new.buf = grind (arith, common_steps) in
    rw (c.in-Bytes.is, bytes) (answers (λ bytes. Ok (Some (Value.Bytes bytes)))
    (rw size at c.in_ok-read_bytes-in-Bytes.ensures.reads))

pub returns-in_err-held-in-Constant : goal.returns-in_err-held-in-Constant
unfolding constant_of
returns-in_err-held-in-Constant g c =
    rw c.in-Constant.is (stops (constant_of c.in-Constant.value) c.from_residual-in_err-held-in-Constant.ensures.1
    c.in_err-held-in-Constant.ensures.reads)

pub returns-in_ok-held-in-Constant : goal.returns-in_ok-held-in-Constant
unfolding constant_of
returns-in_ok-held-in-Constant g c =
    rw (c.in-Constant.is, c.no_value_if.ensures) (answers (constant_of c.in-Constant.value)
    c.in_ok-held-in-Constant.ensures.reads)

pub returns-in_err-skip-in-Padding : goal.returns-in_err-skip-in-Padding
returns-in_err-skip-in-Padding g c =
    rw c.in-Padding.is (stops (λ _. Ok None) c.from_residual-in_err-skip-in-Padding.ensures.1
    c.in_err-skip-in-Padding.ensures.reads)

pub returns-in_ok-skip-in-Padding : goal.returns-in_ok-skip-in-Padding
returns-in_ok-skip-in-Padding g c = rw c.in-Padding.is (answers (λ _. Ok None) c.in_ok-skip-in-Padding.ensures.reads)

pub returns-in-Align : goal.returns-in-Align
returns-in-Align g c = rw c.in-Align.is (answers (λ _. Ok None) c.byte_align.ensures.reads)
