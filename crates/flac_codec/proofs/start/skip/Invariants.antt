use Rattle.std.proofs.Common.{◌-◌, ◌≤◌, IfSome}
use Rattle.flac_codec.specs.Input.{bytes_left}
use Rattle.flac_codec.proofs.StartLemmas.{Skips}
use Rattle.flac_codec.proofs.start.skip.Given as goal

-- the bytes so far are taken
abbrev pub invariant-loop-rest : goal.invariant-loop-rest
invariant-loop-rest g l =
    (l.rest ≤ l.count)
    × IfSome (bytes_left g.R.Read.remaining l.initial.input) (Skips (l.count - l.rest) (bytes_left g.R.Read.remaining l.input))

abbrev pub decreases-loop-rest : goal.decreases-loop-rest
decreases-loop-rest g l = l.rest
