use Rattle.bitstream_stream.proofs.Writing.WriteParts.{lent_all}
use Rattle.bitstream_stream.proofs.write.RefMutBitWrite.write_code_word.Goals as goal

pub returns : goal.returns
returns g c = record { writes = lent_all g.W.BitWrite.sink _ _ _ _ (cc) (cc) c.write_code_word.ensures.writes }
