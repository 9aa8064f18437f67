use Rattle.std.proofs.Common.{refl}
use Rattle.bitstream_order.proofs.Moving.PieceLemmas.{rest_high}
use Rattle.bitstream_order.proofs.order.BigEndianEndianness.rest.Goals as goal

pub returns : goal.returns
returns c = rest_high c.args.byte c.args.n _ refl
