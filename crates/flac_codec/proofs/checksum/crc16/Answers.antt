use Rattle.std.proofs.Common.{◌<◌, ◌^◌, refl, slice_index_or}
use Rattle.flac_codec.specs.Checksum.{with_bytes}
use Rattle.flac_codec.proofs.ChecksumLemmas.{crc16-push}
use Rattle.flac_codec.proofs.checksum.crc16.Goals as goal

pub loop-byte-init : goal.loop-byte-init
unfolding with_bytes
loop-byte-init c = refl

pub loop-byte-preserved : goal.loop-byte-preserved
loop-byte-preserved c =
    let byte : slice_index_or c.args.bytes.now c.loop-byte.byte-index 0 < 2 ^ 8 = (c.type_inv.bytes c.loop-byte.byte-index).fits in
    crc16-push c.loop-byte.crc _ c.remainder16.result c.args.bytes.now c.loop-byte.byte-index 0 c.loop-byte-test.true
    c.loop-byte.invariant c.loop-byte.auto.crc-fits.fits byte c.remainder16.ensures refl
