use Rattle.std.proofs.Common.{arith}
use Rattle.bitstream_io.specs.Callers.{bits}
use Rattle.bitstream_io.proofs.WordLemmas.{length-bits}
use Rattle.bits_c.proofs.BitLemmas.{bit-is}
use Rattle.bits_c.proofs.numbers.bit_at.Goals as goal

pub returns : goal.returns
returns g c =
    let o = g.O.Endianness.order in
    let less = c.requires in
    let long = length-bits o c.args.bytes.now in
    bit-is o (bits o c.args.bytes.now) c.args.at c.number_at.result (omega (arith, less, long)) c.number_at.ensures
