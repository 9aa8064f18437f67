use Rattle.bitfields_core.proofs.SizeLemmas.{packed-size, packed-bytes, size_of-order, size_of-le}
use Rattle.bitfields_core.proofs.laws.packed_values_have_their_size.Goals as goal

pub returns-clause-bits : goal.returns-clause-bits
returns-clause-bits c = packed-size

pub returns-clause-bytes : goal.returns-clause-bytes
returns-clause-bytes c = packed-bytes

pub returns-clause-order : goal.returns-clause-order
returns-clause-order c = size_of-order

pub returns-clause-most : goal.returns-clause-most
returns-clause-most c = size_of-le
