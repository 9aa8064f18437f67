use Rattle.std.proofs.Common.{◌≤◌, length, take}
use Rattle.std.specs.Io.KnownBytes.{Appends}
use Rattle.flac_codec.proofs.output.send.Given as goal

-- the first bytes were written so far
abbrev pub invariant-loop : goal.invariant-loop
invariant-loop g l =
    (l.sent ≤ length l.bytes)
    × Appends (g.W.Write.contents l.initial.writer) (g.W.Write.contents l.writer) (take l.sent l.bytes)
