use Rattle.bitfields_core.specs.Value.{lines, printed_lines}
use Rattle.bitfields_core.proofs.ExactRuns.{named, packed_says, same_bytes, values_fit}
use Rattle.bitfields_core.proofs.PrintedLines.{values-printed_lines}
use Rattle.bitfields_core.proofs.ValueLemmas.{values-Fit}
use Rattle.bitfields_core.proofs.laws.repacked_bytes_are_packed.Goals as goal

pub returns-clause-packed : goal.returns-clause-packed
returns-clause-packed c = λ o fields bytes vs layout one h. (
  printed_lines vs,
  values-printed_lines 1 fields vs layout.in_range
      (values_fit o fields _ vs _ layout (named _ _ vs _ h)),
  same_bytes o fields bytes vs layout one h,
)

pub returns-clause-repacked : goal.returns-clause-repacked
returns-clause-repacked c = λ o fields bytes input vs layout spelt h.
    packed_says o fields bytes vs layout (values-Fit 1 fields (lines input) vs spelt) h
