use borrow.Author.Rules.{sfits_of}
use Rattle.std.specs.Int.{w128}
use Rattle.std.specs.Option.{option_copied}
use Rattle.std.proofs.Common.{rules, ap, sym, ◌∙◌, SFits}
use Rattle.std.proofs.lemmas.Int.{to_z-of_z}
use Rattle.bitfields_core.specs.declared.field_value.FieldValue.TheVariants as Value
use Rattle.bitfields_core.specs.Value.{some_value}
use Rattle.bitfields_core.proofs.LineLemmas.{first_line}
use Rattle.bitfields_core.proofs.PackingLemmas.{result_err}
use Rattle.bitfields_core.proofs.field_value.signed_in.Goals as goal

pub returns-in_err-value-clause-value : goal.returns-in_err-value-clause-value
returns-in_err-value-clause-value c =
    let first = ap option_copied (sym c.in_ok-line.ensures.ok_part) ∙ c.first.ensures.value in
    let lines = first_line c.args.lines.now first in
    rw (result_err c.from_residual-in_err-value.result c.from_residual-in_err-value.ensures.1, lines.1)
    (ap (some_value Value.Signed) c.in_err-value.ensures)

pub returns-clause-value : goal.returns-clause-value
returns-clause-value c =
    let first = ap option_copied (sym c.in_ok-line.ensures.ok_part) ∙ c.first.ensures.value in
    let lines = first_line c.args.lines.now first in
    let fits : SFits w128 c.in_ok-value.value = search (rules, sfits_of) in
    rw (to_z-of_z w128 c.in_ok-value.value fits, lines.1) (ap (some_value Value.Signed) c.in_ok-value.ensures)
