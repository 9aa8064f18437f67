use Rattle.std.proofs.Common.{◌∙◌, refl, sym}
use Rattle.bitstream_sink.proofs.bit_counter.BitCounterBitWrite.write_unsigned_vbr.Goals as goal

pub returns : goal.returns
returns g c = record { writes = c.add.ensures _ _ refl (c.vbr_bits.ensures g.E.Endianness.order ∙ sym c.from.ensures) }
