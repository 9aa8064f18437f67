use Rattle.bitfields_core.proofs.DecimalLemmas.{up_to_half}
use Rattle.bitfields_core.proofs.decimal.negative.Goals as goal

pub negated-requires : goal.negated-requires
negated-requires c = up_to_half c.args.width _ c.in-Ok.value c.args.text.now c.requires.most c.half.ensures
    c.in-Ok.ensures

pub returns-in-Ok : goal.returns-in-Ok
returns-in-Ok c = rw (← c.half.ensures) (rw (← c.in-Ok.ensures) c.negated.ensures)
