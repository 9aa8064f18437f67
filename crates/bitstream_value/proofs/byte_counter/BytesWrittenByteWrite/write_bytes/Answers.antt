use Rattle.std.proofs.Common.{refl}
use Rattle.bitstream_value.proofs.byte_counter.BytesWrittenByteWrite.write_bytes.Goals as goal

pub returns : goal.returns
returns g c = record { writes = c.add.ensures c.args.bytes.now refl }
