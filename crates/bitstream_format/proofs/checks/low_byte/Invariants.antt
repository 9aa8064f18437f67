use Rattle.std.proofs.Common.{◌≡◌}
use Rattle.bitstream_format.specs.Checks.{low_step, steps}
use Rattle.bitstream_format.proofs.checks.low_byte.Given as goal

-- the remainder after the steps so far
abbrev pub invariant-loop : goal.invariant-loop
invariant-loop l = l.crc ≡ steps (low_step l.polynomial) l.counter l.crc-2
