use Rattle.std.proofs.Common.{arith}
use Rattle.bitstream_value.proofs.BooleanLemmas.{truth-bit, truth-refused}
use Rattle.bitstream_value.proofs.integer.boolean.BoolInteger.read_var.Goals as goal

pub returns-then-bits-eq1-clause-reads : goal.returns-then-bits-eq1-clause-reads
returns-then-bits-eq1-clause-reads g c =
    truth-bit _ (let b = c.bits.ensures.value in let one =
    c.if-bits-eq1.true in omega (arith, b, one)) c.read_bit.ensures.reads

pub returns-else-bits-eq1-clause-reads : goal.returns-else-bits-eq1-clause-reads
returns-else-bits-eq1-clause-reads g c =
    truth-refused _ (λ one. c.if-bits-eq1.false (let b =
    c.bits.ensures.value in omega (arith, b, one))) c.refuse_read.ensures.reads
