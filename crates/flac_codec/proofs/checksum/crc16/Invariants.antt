use Rattle.std.proofs.Common.{◌≡◌, take}
use Rattle.flac_codec.specs.Checksum.{crc16}
use Rattle.flac_codec.proofs.checksum.crc16.Given as goal

-- the checksum of the bytes so far
abbrev pub invariant-loop-byte : goal.invariant-loop-byte
invariant-loop-byte l = l.crc ≡ crc16 (take l.byte-index l.bytes)
