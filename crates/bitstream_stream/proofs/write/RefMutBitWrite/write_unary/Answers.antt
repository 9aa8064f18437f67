use Rattle.bitstream_stream.proofs.Writing.SinkLemmas.{lent}
use Rattle.bitstream_stream.proofs.write.RefMutBitWrite.write_unary.Goals as goal

pub returns : goal.returns
returns g c = record { writes = lent g.W.BitWrite.sink _ _ _ _ (cc) c.write_unary.ensures.writes }
