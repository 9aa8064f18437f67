use Rattle.std.specs.Int.{w128}
use Rattle.bitstream_number.proofs.Casts.{negative_fits, negative-is}
use Rattle.bitstream_number.proofs.number.types.u128.U128UnsignedInteger.as_negative.Goals as goal

pub overflow_cast-result : goal.overflow_cast-result
overflow_cast-result c = negative_fits w128 c.args.self c.args.bits c.requires.some c.requires.within

pub returns : goal.returns
returns c = negative-is w128 c.args.self c.args.bits c.requires.some c.requires.within c.requires.below
