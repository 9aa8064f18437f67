use Rattle.std.proofs.Common.{◌≡◌, take}
use Rattle.flac_codec.specs.Checksum.{crc8}
use Rattle.flac_codec.proofs.checksum.crc8.Given as goal

-- the checksum of the bytes so far
abbrev pub invariant-loop-byte : goal.invariant-loop-byte
invariant-loop-byte l = l.crc ≡ crc8 (take l.byte-index l.bytes)
