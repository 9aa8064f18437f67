use Rattle.std.proofs.Common.{◌<◌, ◌^◌, subst}
use Rattle.bitstream_stream.proofs.Reading.ReadsLemmas.{Reads-and_then-err}
use Rattle.bitstream_format.specs.InBytes.{value-bytes}
use Rattle.bitstream_format.proofs.InBytesLemmas.{in_bytes-read, read-stops}
use Rattle.bitstream_format.proofs.in_bytes.read_in_bytes.Goals as goal

pub returns-in_err-number : goal.returns-in_err-number
returns-in_err-number g c = read-stops g.U.UnsignedInteger.value _ c.from_residual.result c.from_residual.ensures.1
    (Reads-and_then-err _ _ c.in_err-number.ensures.reads)

pub returns : goal.returns
returns g c =
    let law = g.met.U.UnsignedInteger in
    let p = g.F.Endianness.order in
    let number = c.in_ok-number.number in
    let v = g.U.UnsignedInteger.value number in
    let below = law.known_law number c.known.ensures in
    let are = value-bytes p g.U.Primitive.be_bytes g.U.Primitive.le_bytes number g.U.Primitive.BYTES v
    (law.be_law number below) (law.le_law number below) in
    in_bytes-read _ p _ v c.in_ok-number.ensures.reads are (subst (λ m. v < 2 ^ m) g.met.U.Numeric.size_law below)
