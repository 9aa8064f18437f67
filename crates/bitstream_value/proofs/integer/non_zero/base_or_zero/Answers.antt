use Rattle.bitstream_value.proofs.integer.non_zero.base_or_zero.Goals as goal

pub returns-in-None : goal.returns-in-None
returns-in-None g c = rw c.in-None.is (cc g.met.N.Base.UnsignedInteger.ZERO_value_law)
