use Rattle.std.proofs.Common.{◌<◌, arith, slice_index_or}
use Rattle.bitstream_format.specs.Checks.{low_step}
use Rattle.bitstream_format.proofs.ChecksLemmas.{over-byte, over-none}
use Rattle.bitstream_format.proofs.checks.crc16_low_more.Goals as goal

pub loop-byte-init : goal.loop-byte-init
loop-byte-init c = over-none (low_step 0x8408) 1 c.args.crc

pub loop-byte-preserved : goal.loop-byte-preserved
loop-byte-preserved c =
    let small : slice_index_or c.args.bytes.now c.loop-byte.byte-index 0 < 256 = (c.type_inv.bytes c.loop-byte.byte-index).fits in
    over-byte (low_step 0x8408) 1 c.args.crc c.loop-byte.crc _ c.args.bytes.now c.loop-byte.byte-index 0 _ c.loop-byte-test.true
    c.loop-byte.invariant small (omega arith) c.low_byte16-crc.ensures
