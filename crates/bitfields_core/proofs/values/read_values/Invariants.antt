use Rattle.std.proofs.Common.{◌≡◌, map, ◌+◌, drop}
use Rattle.bitfields_core.specs.Value.{values as values_of}
use Rattle.bitfields_core.proofs.LayoutLemmas.{after}
use Rattle.bitfields_core.proofs.values.read_values.Given as goal

abbrev pub invariant-loop-index : goal.invariant-loop-index
invariant-loop-index l =
    values_of 1 l.fields (map (λ x. x.now) l.fn.lines)
    ≡ after l.values.items (values_of (l.index + 1) (drop l.index l.fields) (map (λ x. x.now) l.rest))
