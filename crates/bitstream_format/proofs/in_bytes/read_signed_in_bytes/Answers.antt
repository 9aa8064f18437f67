use Rattle.std.proofs.Common.{◌≡◌, ◌<◌, ◌*◌, ◌∙◌, ap, subst, arith}
use Rattle.std.proofs.lemmas.Bool.{lt-ltb}
use Rattle.bitstream_io.specs.Callers.{FitsSignedBits, bytes}
use Rattle.bitstream_number.specs.Word.{High, Low, residue}
use Rattle.bitstream_stream.proofs.Reading.ReadsLemmas.{Reads-and_then-err}
use Rattle.bitstream_format.specs.InBytes.{value-bytes}
use Rattle.bitstream_format.proofs.InBytesLemmas.{signed_in_bytes-read, read-stops}
use Rattle.bitstream_format.proofs.in_bytes.read_signed_in_bytes.Goals as goal

pub returns-in_err-number : goal.returns-in_err-number
returns-in_err-number g c = read-stops g.S.Numeric.integer _ c.from_residual.result c.from_residual.ensures.1
    (Reads-and_then-err _ _ c.in_err-number.ensures.reads)

pub returns : goal.returns
returns g c =
    let law = g.met.S.SignedInteger in
    let num = g.met.S.Numeric in
    let p = g.F.Endianness.order in
    let n = g.S.Primitive.BYTES in
    let number = c.in_ok-number.number in
    let x = g.S.Numeric.integer number in
    let known = c.known.ensures in
    let size = ap (λ m. residue m x) num.size_law in
    let are = value-bytes p g.S.Primitive.be_bytes g.S.Primitive.le_bytes number n (residue (8 * n) x)
    (law.be_law number known ∙ ap (bytes High n) size) (law.le_law number known ∙ ap (bytes Low n) size) in
    let some : 0 < 8 * n = omega (arith, num.least_law) in
    signed_in_bytes-read _ p n x c.in_ok-number.ensures.reads are (lt-ltb 0 (8 * n) some)
    (subst (λ m. FitsSignedBits m x) num.size_law ((law.fits_law x).0 known))
