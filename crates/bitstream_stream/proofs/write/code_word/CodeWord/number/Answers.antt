use Rattle.bitstream_stream.proofs.Writing.CodeWordLemmas.{high-small, high-word, low-small, low-word, order-high, order-low}
use Rattle.bitstream_stream.proofs.write.code_word.CodeWord.number.Goals as goal

pub returns-then-first-eq1-clause-word : goal.returns-then-first-eq1-clause-word
returns-then-first-eq1-clause-word g c =
    high-word c.args.self.now g.E.Endianness.order
    (order-high g.E.Endianness.order _ c.first.ensures.value c.if-first-eq1.true)

pub returns-then-first-eq1-clause-small : goal.returns-then-first-eq1-clause-small
returns-then-first-eq1-clause-small g c = high-small c.args.self.now

pub returns-else-first-eq1-clause-word : goal.returns-else-first-eq1-clause-word
returns-else-first-eq1-clause-word g c =
    low-word c.args.self.now g.E.Endianness.order
    (order-low g.E.Endianness.order _ c.first.ensures.value c.if-first-eq1.false)

pub returns-else-first-eq1-clause-small : goal.returns-else-first-eq1-clause-small
returns-else-first-eq1-clause-small g c = low-small c.args.self.now
