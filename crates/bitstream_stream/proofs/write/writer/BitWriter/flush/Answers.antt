use Rattle.bitstream_stream.proofs.Writing.WriterLemmas.{flushes_lost}
use Rattle.bitstream_stream.proofs.write.writer.BitWriter.flush.Goals as goal

pub returns-in-Err-clause-flushes : goal.returns-in-Err-clause-flushes
returns-in-Err-clause-flushes g c =
    flushes_lost _ _ _ _ _ _ c.if-self.false c.refuse.ensures.answer c.refuse.ensures.fails c.in-Err.ensures.sends
