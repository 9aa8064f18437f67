use Rattle.std.proofs.Common.{◌≡◌, ◌≤◌, ℕ, length}
use Rattle.flac_codec.specs.File.{metadata_end}
use Rattle.flac_codec.proofs.metadata.metadata_end.Given as goal

-- the end is that of the bytes that are left
abbrev pub invariant-loop-done : goal.invariant-loop-done
invariant-loop-done l =
    (n : ℕ) × (length l.rest ≤ n) × (metadata_end (length l.bytes) l.initial.done l.bytes ≡ metadata_end n l.done l.rest)

abbrev pub decreases-loop-done : goal.decreases-loop-done
decreases-loop-done l = length l.rest
