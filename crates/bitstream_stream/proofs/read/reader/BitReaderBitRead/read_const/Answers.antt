use Rattle.bitstream_stream.proofs.Reading.ConstLemmas.{const-err, const-yes, const-no}
use Rattle.bitstream_stream.proofs.read.reader.BitReaderBitRead.read_const.Goals as goal

pub returns-in_err-value-clause-reads : goal.returns-in_err-value-clause-reads
returns-in_err-value-clause-reads g c = const-err _ _ _ _ _ _ c.requires.word c.from_residual.ensures.1
    c.in_err-value.ensures.reads

pub returns-then-value-BITS-clause-reads : goal.returns-then-value-BITS-clause-reads
returns-then-value-BITS-clause-reads g c = const-yes _ _ _ _ _ _ _ c.requires.word c.if-value-BITS.true c.BITS.ensures
    c.in_ok-value.ensures.reads

pub returns-else-value-BITS-clause-reads : goal.returns-else-value-BITS-clause-reads
returns-else-value-BITS-clause-reads g c = const-no _ _ _ _ _ _ _ c.requires.word c.if-value-BITS.false c.BITS.ensures
    c.in_ok-value.ensures.reads

pub returns-in_err-value-clause-asks : goal.returns-in_err-value-clause-asks
returns-in_err-value-clause-asks g c = c.in_err-value.ensures.asks

pub returns-then-value-BITS-clause-asks : goal.returns-then-value-BITS-clause-asks
returns-then-value-BITS-clause-asks g c = c.in_ok-value.ensures.asks

pub returns-else-value-BITS-clause-asks : goal.returns-else-value-BITS-clause-asks
returns-else-value-BITS-clause-asks g c = c.in_ok-value.ensures.asks
