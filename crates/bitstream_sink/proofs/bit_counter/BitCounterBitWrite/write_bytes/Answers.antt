use Rattle.std.proofs.Common.{◌∙◌, refl, arith}
use Rattle.bitstream_number.proofs.WordLemmas.{length-bits}
use Rattle.bitstream_sink.proofs.bit_counter.BitCounterBitWrite.write_bytes.Goals as goal

pub returns : goal.returns
returns g c = record { writes = c.add.ensures _ _ refl (length-bits g.E.Endianness.order c.args.bytes.now ∙ omega arith) }
