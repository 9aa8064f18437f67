use Rattle.std.specs.Option.{option_copied}
use Rattle.std.proofs.Common.{ap, sym, ◌∙◌}
use Rattle.bitfields_core.specs.declared.field_value.FieldValue.TheVariants as Value
use Rattle.bitfields_core.specs.Value.{some_value}
use Rattle.bitfields_core.proofs.LineLemmas.{first_line}
use Rattle.bitfields_core.proofs.PackingLemmas.{result_err}
use Rattle.bitfields_core.proofs.field_value.unsigned_in.Goals as goal

pub returns-in_err-value-clause-value : goal.returns-in_err-value-clause-value
returns-in_err-value-clause-value c =
    let first = ap option_copied (sym c.in_ok-line.ensures.ok_part) ∙ c.first.ensures.value in
    let lines = first_line c.args.lines.now first in
    rw (result_err c.from_residual-in_err-value.result c.from_residual-in_err-value.ensures.1, lines.1)
    (ap (some_value Value.Unsigned) c.in_err-value.ensures)

pub returns-clause-value : goal.returns-clause-value
returns-clause-value c =
    let first = ap option_copied (sym c.in_ok-line.ensures.ok_part) ∙ c.first.ensures.value in
    let lines = first_line c.args.lines.now first in
    rw lines.1 (ap (some_value Value.Unsigned) c.in_ok-value.ensures)
