use Rattle.std.proofs.Common.{refl}
use Rattle.bitstream_sink.proofs.bit_counter.BitCounterBitWrite.write_bit.Goals as goal

pub returns : goal.returns
returns g c = record { writes = c.add.ensures _ _ refl refl }
