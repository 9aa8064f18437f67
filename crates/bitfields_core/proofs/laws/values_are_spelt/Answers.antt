use Rattle.bitfields_core.proofs.ValueLemmas.{values-Fit}
use Rattle.bitfields_core.proofs.PrintedLines.{values-printed_lines}
use Rattle.bitfields_core.proofs.laws.values_are_spelt.Goals as goal

pub returns-clause-fit : goal.returns-clause-fit
returns-clause-fit c = values-Fit

pub returns-clause-spelt : goal.returns-clause-spelt
returns-clause-spelt c = values-printed_lines
