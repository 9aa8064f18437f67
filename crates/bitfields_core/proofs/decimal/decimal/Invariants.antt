use Rattle.std.proofs.Common.{◌≡◌, take}
use Rattle.bitfields_core.specs.Decimal.{decimal_value}
use Rattle.bitfields_core.proofs.decimal.decimal.Given as goal

abbrev pub invariant-loop-byte : goal.invariant-loop-byte
invariant-loop-byte l = l.value ≡ decimal_value (take l.byte-index l.text)
