use Rattle.std.proofs.Common.{refl}
use Rattle.bitstream_order.proofs.Moving.PieceLemmas.{rest_low}
use Rattle.bitstream_order.proofs.order.LittleEndianEndianness.rest.Goals as goal

pub returns : goal.returns
returns c = rest_low c.args.byte c.args.n _ refl
