use Rattle.std.proofs.Common.{arith, refl}
use Rattle.bitstream_stream.proofs.Reading.ReaderLemmas.{unsigned-failed, unsigned-refused}
use Rattle.bitstream_stream.proofs.read.reader.BitReader.read_word.Goals as goal

pub returns-then-self-clause-reads : goal.returns-then-self-clause-reads
returns-then-self-clause-reads g c = unsigned-failed _ _ _ _ c.if-self.true

pub returns-then-bits-BITS_SIZE-clause-reads : goal.returns-then-bits-BITS_SIZE-clause-reads
returns-then-bits-BITS_SIZE-clause-reads g c = unsigned-refused _ _ _ _ c.if-self.false (omega arith)

pub returns-then-bits-BITS_SIZE-clause-asks : goal.returns-then-bits-BITS_SIZE-clause-asks
returns-then-bits-BITS_SIZE-clause-asks g c = (omega arith, λ _. refl)

pub returns-clause-reads : goal.returns-clause-reads
returns-clause-reads g c = c.take_word.ensures.reads

pub returns-clause-asks : goal.returns-clause-asks
returns-clause-asks g c = c.take_word.ensures.asks
