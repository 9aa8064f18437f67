use Rattle.std.proofs.Common.{◌≡◌}
use Rattle.bitstream_format.specs.Checks.{high_step, steps}
use Rattle.bitstream_format.proofs.checks.high_byte.Given as goal

-- the remainder after the steps so far
abbrev pub invariant-loop : goal.invariant-loop
invariant-loop l = l.crc ≡ steps (high_step 0x80000000 l.polynomial) l.counter l.crc-2
