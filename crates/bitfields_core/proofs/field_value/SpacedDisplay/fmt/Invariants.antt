use Rattle.std.proofs.Common.{ℕ, take, ◌∷◌}
use Rattle.std.specs.Fmt.{decimal, HasWritten, IsPlainFormatter}
use Rattle.std.specs.List.{flat_map}
use Rattle.bitfields_core.proofs.field_value.SpacedDisplay.fmt.Given as goal

abbrev pub invariant-loop-byte : goal.invariant-loop-byte
invariant-loop-byte g l =
    IsPlainFormatter l.initial.f
    → HasWritten g.W.Write.write_str_gives l.initial.f (flat_map (λ (b : ℕ). 32 ∷ decimal b) (take l.byte-index l.rest))
    l.f
