use Rattle.std.proofs.Common.{◌≡◌, ◌++◌, drop}
use Rattle.flac_codec.specs.Channels.{more}
use Rattle.flac_codec.proofs.channels.more.Given as goal

-- the samples so far, and then those that are still to come
abbrev pub invariant-loop-at : goal.invariant-loop-at
invariant-loop-at l = l.found.items ++ more l.shift (drop l.at l.xs) (drop l.at l.ys) ≡ more l.shift l.xs l.ys
