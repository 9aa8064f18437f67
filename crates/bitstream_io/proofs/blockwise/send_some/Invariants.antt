-- An interrupted request sends nothing.
use Rattle.std.specs.Io.KnownBytes.{Keeps}
use Rattle.bitstream_io.proofs.blockwise.send_some.Given as goal

abbrev pub invariant-loop-try : goal.invariant-loop-try
invariant-loop-try g l = Keeps (g.W.Write.contents l.initial.writer) (g.W.Write.contents l.writer)
