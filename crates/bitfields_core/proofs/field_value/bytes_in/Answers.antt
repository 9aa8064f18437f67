use Rattle.std.proofs.Common.{ap, sym, ◌∙◌}
use Rattle.bitfields_core.specs.declared.field_value.FieldValue.TheVariants as Value
use Rattle.bitfields_core.specs.Value.{some_value}
use Rattle.bitfields_core.proofs.LineLemmas.{first_line}
use Rattle.bitfields_core.proofs.field_value.bytes_in.Goals as goal

pub returns-in-Ok-clause-value : goal.returns-in-Ok-clause-value
returns-in-Ok-clause-value c =
    let lines = first_line c.args.lines.now c.in-Some.ensures.value in
    rw lines.1 (ap (some_value Value.Bytes) (sym c.in-Ok.is ∙ c.in_ok-bytes.ensures))

pub returns-in-Err-clause-value : goal.returns-in-Err-clause-value
returns-in-Err-clause-value c =
    let lines = first_line c.args.lines.now c.in-Some.ensures.value in
    rw lines.1 (ap (some_value Value.Bytes) (sym c.in-Err.is ∙ c.in_ok-bytes.ensures))
