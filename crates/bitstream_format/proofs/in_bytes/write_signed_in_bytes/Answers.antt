use Rattle.std.proofs.Common.{◌*◌, ◌∙◌, ap}
use Rattle.bitstream_io.specs.Callers.{bytes}
use Rattle.bitstream_number.specs.Word.{High, Low, residue}
use Rattle.bitstream_io.proofs.WriteParts.{all_one}
use Rattle.bitstream_format.specs.InBytes.{value-bytes}
use Rattle.bitstream_format.proofs.in_bytes.write_signed_in_bytes.Goals as goal

pub returns : goal.returns
returns g c =
    let law = g.met.S.SignedInteger in
    let n = g.S.Primitive.BYTES in
    let number = c.args.number in
    let x = g.S.Numeric.integer number in
    let known = c.known.ensures in
    let size = ap (λ m. residue m x) g.met.S.Numeric.size_law in
    let are = value-bytes g.F.Endianness.order g.S.Primitive.be_bytes g.S.Primitive.le_bytes number n (residue (8 * n) x)
    (law.be_law number known ∙ ap (bytes High n) size) (law.le_law number known ∙ ap (bytes Low n) size) in
    all_one _ _ _ _ _ (rw are at c.write_as_from.ensures.writes)
