use Rattle.bitstream_stream.proofs.Writing.WriteParts.{all_one}
use Rattle.bitstream_value.proofs.integer.unsigned.write_number.Goals as goal

pub returns : goal.returns
returns g c = record { writes = all_one g.W.BitWrite.sink _ _ _ _ c.write_unsigned_counted.ensures.writes }
