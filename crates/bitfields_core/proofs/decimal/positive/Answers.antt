use borrow.Author.Rules.{sfits_of}
use Rattle.std.proofs.Common.{rules, SFits, ◌∙◌, Ok, sym, ap}
use Rattle.std.specs.Int.{w128}
use Rattle.std.proofs.lemmas.Int.{to_z-of_z}
use Rattle.bitfields_core.proofs.DecimalLemmas.{half_below}
use Rattle.bitfields_core.proofs.decimal.positive.Goals as goal

pub non_negative-requires : goal.non_negative-requires
non_negative-requires c = half_below c.args.width c.in-Ok.value c.args.text.now c.requires.most (sym c.in-Ok.ensures)

pub returns-in-Ok : goal.returns-in-Ok
returns-in-Ok c =
    let fits : SFits w128 c.non_negative.result = search (rules, sfits_of) in
    rw (← c.in-Ok.ensures) (ap Ok (to_z-of_z w128 c.non_negative.result fits ∙ c.non_negative.ensures))
