use Rattle.std.proofs.Common.{◌<◌, arith, slice_index_or}
use Rattle.bitstream_format.specs.Checks.{high_step}
use Rattle.bitstream_format.proofs.ChecksLemmas.{over-byte, over-none}
use Rattle.bitstream_format.proofs.checks.crc24_more.Goals as goal

pub loop-byte-init : goal.loop-byte-init
loop-byte-init c = over-none (high_step 0x80000000 0xFFF40900) 0x1000000 c.args.crc

pub loop-byte-preserved : goal.loop-byte-preserved
loop-byte-preserved c =
    let small : slice_index_or c.args.bytes.now c.loop-byte.byte-index 0 < 256 = (c.type_inv.bytes c.loop-byte.byte-index).fits in
    over-byte (high_step 0x80000000 0xFFF40900) 0x1000000 c.args.crc c.loop-byte.crc _ c.args.bytes.now c.loop-byte.byte-index 0 _ c.loop-byte-test.true
    c.loop-byte.invariant small (omega arith) c.high_byte-crc.ensures
