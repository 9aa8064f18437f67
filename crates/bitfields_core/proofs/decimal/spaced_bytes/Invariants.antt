use Rattle.std.proofs.Common.{map}
use Rattle.bitfields_core.proofs.BytesLemmas.{IsRead}
use Rattle.bitfields_core.proofs.decimal.spaced_bytes.Given as goal

abbrev pub invariant-loop-part : goal.invariant-loop-part
invariant-loop-part l = IsRead (map (λ x. x.now) l.part-items) l.part-index l.bytes.items
