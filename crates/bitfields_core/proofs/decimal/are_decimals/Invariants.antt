use Rattle.std.proofs.Common.{◌≡◌, map, take, true}
use Rattle.std.specs.List.{list_all}
use Rattle.bitfields_core.specs.Decimal.{is_decimal}
use Rattle.bitfields_core.proofs.decimal.are_decimals.Given as goal

abbrev pub invariant-loop-text : goal.invariant-loop-text
invariant-loop-text l = list_all is_decimal (take l.text-index (map (λ x. x.now) l.texts)) ≡ true
