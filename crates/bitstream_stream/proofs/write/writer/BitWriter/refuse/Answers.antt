use Rattle.std.proofs.Common.{arith, refl}
use Rattle.bitstream_stream.proofs.write.writer.BitWriter.refuse.Goals as goal

pub returns-clause-answer : goal.returns-clause-answer
returns-clause-answer g c = refl

pub returns-clause-fails : goal.returns-clause-fails
returns-clause-fails g c = refl

pub returns-clause-requests : goal.returns-clause-requests
returns-clause-requests g c = refl

pub invariant_of-self : goal.invariant_of-self
invariant_of-self g c = record { few = omega arith; small = omega arith; empty = λ failed. refl }
