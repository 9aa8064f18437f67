use Rattle.std.proofs.Common.{arith}
use Rattle.std.proofs.lemmas.Nat.{one_shl}
use Rattle.bitstream_io.proofs.BytesWritten.{word-zeros}
use Rattle.bits_c.proofs.PutLemmas.{word-ones}
use Rattle.bits_c.proofs.writer.golomb.others.Goals as goal

pub returns-then-stop-clause-bits : goal.returns-then-stop-clause-bits
returns-then-stop-clause-bits c = λ o. rw c.if-stop.true (word-zeros o c.args.width)

pub returns-else-stop-clause-bits : goal.returns-else-stop-clause-bits
returns-else-stop-clause-bits c = λ o.
    let few = c.requires in
    rw (c.if-stop.false, one_shl c.args.width 128 (omega (arith, few))) (word-ones o c.args.width)
