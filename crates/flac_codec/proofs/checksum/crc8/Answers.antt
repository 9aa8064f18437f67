use Rattle.std.proofs.Common.{refl}
use Rattle.flac_codec.specs.Checksum.{with_bytes}
use Rattle.flac_codec.proofs.ChecksumLemmas.{crc8-push}
use Rattle.flac_codec.proofs.checksum.crc8.Goals as goal

pub loop-byte-init : goal.loop-byte-init
unfolding with_bytes
loop-byte-init c = refl

pub loop-byte-preserved : goal.loop-byte-preserved
loop-byte-preserved c =
    crc8-push c.loop-byte.crc _ c.args.bytes.now c.loop-byte.byte-index 0 c.loop-byte-test.true c.loop-byte.invariant
    c.remainder8-crc.ensures
