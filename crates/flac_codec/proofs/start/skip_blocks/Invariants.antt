use Rattle.std.proofs.Common.{IfSome}
use Rattle.flac_codec.specs.Input.{bytes_left}
use Rattle.flac_codec.proofs.StartLemmas.{BlocksLeft}
use Rattle.flac_codec.proofs.start.skip_blocks.Given as goal

-- the frames are behind the blocks that are left
abbrev pub invariant-loop : goal.invariant-loop
invariant-loop g l =
    IfSome (bytes_left g.R.Read.remaining l.initial.input)
    (BlocksLeft l.initial.last l.last (bytes_left g.R.Read.remaining l.input))
