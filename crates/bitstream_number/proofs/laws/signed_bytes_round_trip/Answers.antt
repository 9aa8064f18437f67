use Rattle.std.proofs.Common.{sym, ◌∙◌, ◌<◌, arith}
use Rattle.bitstream_number.specs.Word.{High, Low}
use Rattle.bitstream_number.proofs.SignedLemmas.{same_from_residue}
use Rattle.bitstream_number.proofs.laws.signed_bytes_round_trip.Goals as goal

pub returns-clause-high : goal.returns-clause-high
returns-clause-high g c =
    let law = g.met.S.SignedInteger in
    let num = g.met.S.Numeric in
    let x = c.args.value in
    let r = c.from_be_bytes-high.result in
    let some : 0 < g.S.Numeric.BITS_SIZE = omega (arith, num.size_law, num.least_law) in
    let same = c.from_be_bytes-high.ensures ∙ c.to_be_bytes.ensures.bytes in
    same_from_residue _ g.S.Primitive.BYTES High _ _ num.size_law some ((law.fits_law _).0 c.known-2.ensures)
    ((law.fits_law _).0 c.known.ensures) (sym (law.be_law r c.known-2.ensures) ∙ same
    ∙ law.be_law x c.known.ensures)

pub returns-clause-low : goal.returns-clause-low
returns-clause-low g c =
    let law = g.met.S.SignedInteger in
    let num = g.met.S.Numeric in
    let x = c.args.value in
    let r = c.from_le_bytes-low.result in
    let some : 0 < g.S.Numeric.BITS_SIZE = omega (arith, num.size_law, num.least_law) in
    let same = c.from_le_bytes-low.ensures ∙ c.to_le_bytes.ensures.bytes in
    same_from_residue _ g.S.Primitive.BYTES Low _ _ num.size_law some ((law.fits_law _).0 c.known-3.ensures)
    ((law.fits_law _).0 c.known.ensures) (sym (law.le_law r c.known-3.ensures) ∙ same
    ∙ law.le_law x c.known.ensures)
