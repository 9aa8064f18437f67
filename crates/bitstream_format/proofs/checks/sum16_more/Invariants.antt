use Rattle.std.proofs.Common.{◌≡◌, ◌+◌, ◌%◌, take}
use Rattle.bitstream_format.specs.Checks.{sum16_state}
use Rattle.bitstream_format.proofs.checks.sum16_more.Given as goal

-- the sum after the bytes so far, and the place of the next one
abbrev pub invariant-loop-byte : goal.invariant-loop-byte
invariant-loop-byte l = record {
  sum : l.sum ≡ sum16_state l.sum-2 l.at (take l.byte-index l.bytes);
  place : l.place ≡ (l.at + l.byte-index) % 2;
}
