use Rattle.std.proofs.Common.{◌-◌, ◌≤◌, not, replicate}
use Rattle.bits_c.specs.Writer.{Wrote}
use Rattle.bits_c.proofs.writer.golomb.append_others.Given as goal

-- the bits so far, and those that are left
abbrev pub invariant-loop-left : goal.invariant-loop-left
invariant-loop-left g l = record {
  most : l.left ≤ l.count;
  wrote : Wrote g.O.Endianness.order (replicate (l.count - l.left) (not l.stop)) l.fn.writer l.writer;
}

abbrev pub decreases-loop-left : goal.decreases-loop-left
decreases-loop-left g l = l.left
