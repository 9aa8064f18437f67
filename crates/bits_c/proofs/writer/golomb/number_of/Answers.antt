use Rattle.std.proofs.Common.{true, false}
use Rattle.bitstream_io.proofs.WriteLemmas.{word-bit}
use Rattle.bits_c.proofs.writer.golomb.number_of.Goals as goal

pub returns-then-stop-clause-bits : goal.returns-then-stop-clause-bits
returns-then-stop-clause-bits c = λ o. rw c.if-stop.true (word-bit o true)

pub returns-else-stop-clause-bits : goal.returns-else-stop-clause-bits
returns-else-stop-clause-bits c = λ o. rw c.if-stop.false (word-bit o false)
