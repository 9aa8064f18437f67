use Rattle.std.proofs.Common.{◌≡◌, ◌≤◌, ◌+◌, ◌*◌, ◌-◌, length}
use Rattle.std.specs.Prelude.{max}
use Rattle.std.specs.Io.KnownBytes.{Keeps}
use Rattle.flac_codec.specs.Input.{bytes_left, fetched}
use Rattle.flac_codec.proofs.input.Input.fill.Given as goal

-- the bytes left are the same so far, none of those that were fetched is taken, and they are not too many
abbrev pub invariant-loop-self : goal.invariant-loop-self
invariant-loop-self g l =
    Keeps (bytes_left g.R.Read.remaining l.initial.self) (bytes_left g.R.Read.remaining l.self)
    × (l.self.start ≡ 0)
    × (length l.self.bytes.items ≤ max (length (fetched l.initial.self)) (2 * l.count + 16384))

abbrev pub decreases-loop-self : goal.decreases-loop-self
decreases-loop-self g l = 2 * l.count - length l.self.bytes.items
