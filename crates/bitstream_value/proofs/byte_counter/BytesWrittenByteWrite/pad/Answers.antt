use Rattle.std.proofs.lemmas.List.{length-replicate}
use Rattle.bitstream_value.proofs.byte_counter.BytesWrittenByteWrite.pad.Goals as goal

pub returns : goal.returns
returns g c = record { writes = c.add.ensures _ (length-replicate c.args.bytes 0) }
