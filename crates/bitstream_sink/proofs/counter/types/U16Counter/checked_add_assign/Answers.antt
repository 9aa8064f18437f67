use Rattle.std.proofs.Common.{arith, refl}
use Rattle.bitstream_sink.proofs.counter.types.U16Counter.checked_add_assign.Goals as goal

pub returns-clause-holds : goal.returns-clause-holds
returns-clause-holds c =
    let sum = rw c.in_ok-self.ensures.ok_part at c.checked_add.ensures in
    (λ _. omega (arith, sum.0), λ _. refl)

pub returns-clause-sum : goal.returns-clause-sum
returns-clause-sum c =
    let sum = rw c.in_ok-self.ensures.ok_part at c.checked_add.ensures in
    sum.1
