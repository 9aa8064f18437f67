use borrow.Author.Rules.{sfits_of}
use Rattle.std.proofs.Common.{rules, SFits}
use Rattle.std.specs.Int.{w128}
use Rattle.std.proofs.lemmas.Int.{to_z-of_z}
use Rattle.bitfields_core.proofs.packing.append_signed_groups.Goals as goal

pub returns-in-Four : goal.returns-in-Four
returns-in-Four g c =
    let fits : SFits w128 c.args.value = search (rules, sfits_of) in
    rw c.in-Four.is (rw (to_z-of_z w128 c.args.value fits) at c.write_signed_vbr.ensures.writes)

pub returns-in-Eight : goal.returns-in-Eight
returns-in-Eight g c =
    let fits : SFits w128 c.args.value = search (rules, sfits_of) in
    rw c.in-Eight.is (rw (to_z-of_z w128 c.args.value fits) at c.write_signed_vbr-in-Eight.ensures.writes)
