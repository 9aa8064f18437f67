use Rattle.bitstream_stream.proofs.WholeBytes.ByteWritesLemmas.{writes_lent}
use Rattle.bitstream_stream.proofs.bytes.byte_write.RefMutByteWrite.write.Goals as goal

pub returns : goal.returns
returns g c = record { writes = writes_lent g.W.ByteWrite.sink _ _ (cc) _ _ c.write.ensures.writes }
