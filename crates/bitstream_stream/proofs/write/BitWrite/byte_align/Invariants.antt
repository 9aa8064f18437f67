use Rattle.std.proofs.Common.{◌≡◌, ◌+◌, ℕ, replicate, false}
use Rattle.bitstream_stream.specs.Alignment.{to_boundary}
use Rattle.bitstream_stream.specs.Writing.Sink.{IsWithin}
use Rattle.bitstream_stream.proofs.Writing.SinkParts.{Begun}
use Rattle.bitstream_stream.proofs.write.BitWrite.byte_align.Given as goal

-- k zeros so far, and the rest to come, for which there is room
abbrev pub invariant-loop-self : goal.invariant-loop-self
invariant-loop-self g l =
    let K = g.Self.BitWrite.sink in
    (k : ℕ) × Begun K l.fn.self (replicate k false) l.self
    × (k + to_boundary (K.len l.self) ≡ to_boundary (K.len l.fn.self))
    × IsWithin K.limit (K.len l.fn.self + to_boundary (K.len l.fn.self))

abbrev pub decreases-loop-self : goal.decreases-loop-self
decreases-loop-self g l = to_boundary (g.Self.BitWrite.sink.len l.self)
