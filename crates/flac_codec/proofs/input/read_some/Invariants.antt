use Rattle.std.specs.Io.KnownBytes.{Keeps}
use Rattle.flac_codec.proofs.input.read_some.Given as goal

-- the reader keeps its bytes so far
abbrev pub invariant-loop : goal.invariant-loop
invariant-loop g l = Keeps (g.R.Read.remaining l.initial.reader) (g.R.Read.remaining l.reader)
