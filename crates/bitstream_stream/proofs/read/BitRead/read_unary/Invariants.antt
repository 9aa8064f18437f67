use Rattle.std.proofs.Common.{◌-◌, ◌^◌, ◌<◌, not, replicate}
use Rattle.bitstream_stream.proofs.Reading.ReadsLemmas.{Begun}
use Rattle.bitstream_stream.proofs.read.BitRead.read_unary.Given as goal

-- the bits that were counted, none of which is the stop bit
abbrev pub invariant-loop-self : goal.invariant-loop-self
invariant-loop-self g l = record {
  few : l.count < 2 ^ 32;
  begun : Begun g.Self.BitRead.source l.fn.self (replicate l.count (not l.stop)) l.self;
}

abbrev pub decreases-loop-self : goal.decreases-loop-self
decreases-loop-self g l = 2 ^ 32 - l.count
