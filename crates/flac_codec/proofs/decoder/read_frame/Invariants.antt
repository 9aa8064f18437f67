use Rattle.std.specs.Io.KnownBytes.{Keeps}
use Rattle.flac_codec.specs.Input.{bytes_left}
use Rattle.flac_codec.proofs.decoder.read_frame.Given as goal

-- the bytes left are the same so far
abbrev pub invariant-loop : goal.invariant-loop
invariant-loop g l = Keeps (bytes_left g.R.Read.remaining l.initial.input) (bytes_left g.R.Read.remaining l.input)
