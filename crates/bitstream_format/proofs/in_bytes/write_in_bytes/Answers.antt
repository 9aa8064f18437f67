use Rattle.bitstream_io.proofs.WriteParts.{all_one}
use Rattle.bitstream_format.specs.InBytes.{value-bytes}
use Rattle.bitstream_format.proofs.in_bytes.write_in_bytes.Goals as goal

pub returns : goal.returns
returns g c =
    let law = g.met.U.UnsignedInteger in
    let number = c.args.number in
    let below = law.known_law number c.known.ensures in
    let are = value-bytes g.F.Endianness.order g.U.Primitive.be_bytes g.U.Primitive.le_bytes number g.U.Primitive.BYTES
    (g.U.UnsignedInteger.value number) (law.be_law number below) (law.le_law number below) in
    all_one _ _ _ _ _ (rw are at c.write_as_from.ensures.writes)
