use Rattle.std.proofs.Common.{◌≡◌, ◌++◌, drop}
use Rattle.flac_codec.specs.Channels.{less}
use Rattle.flac_codec.proofs.channels.less.Given as goal

-- the samples so far, and then those that are still to come
abbrev pub invariant-loop-at : goal.invariant-loop-at
invariant-loop-at l = l.found.items ++ less l.shift (drop l.at l.xs) (drop l.at l.ys) ≡ less l.shift l.xs l.ys
