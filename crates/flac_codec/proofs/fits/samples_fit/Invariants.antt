use Rattle.std.proofs.Common.{take}
use Rattle.std.specs.List.{All}
use Rattle.bitstream_io.specs.Callers.{FitsSignedBits}
use Rattle.flac_codec.proofs.fits.samples_fit.Given as goal

-- the samples so far fit
abbrev pub invariant-loop-sample : goal.invariant-loop-sample
invariant-loop-sample l = All (FitsSignedBits l.width) (take l.sample-index l.samples)
