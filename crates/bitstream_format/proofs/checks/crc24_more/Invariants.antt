use Rattle.std.proofs.Common.{◌≡◌, take}
use Rattle.bitstream_format.specs.Checks.{crc24_state}
use Rattle.bitstream_format.proofs.checks.crc24_more.Given as goal

-- the state after the bytes so far
abbrev pub invariant-loop-byte : goal.invariant-loop-byte
invariant-loop-byte l = l.crc ≡ crc24_state l.crc-2 (take l.byte-index l.bytes)
