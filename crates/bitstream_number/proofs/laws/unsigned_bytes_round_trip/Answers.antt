use Rattle.std.proofs.Common.{sym, ◌∙◌}
use Rattle.bitstream_number.specs.Word.{High, Low}
use Rattle.bitstream_number.proofs.WordLemmas.{same_from_bytes}
use Rattle.bitstream_number.proofs.laws.unsigned_bytes_round_trip.Goals as goal

pub returns-clause-high : goal.returns-clause-high
returns-clause-high g c =
    let u = g.U.UnsignedInteger in
    let law = g.met.U.UnsignedInteger in
    let r = c.from_be_bytes-high.result in
    let below = law.known_law r c.known-2.ensures in
    let within = law.known_law c.args.value c.known.ensures in
    let same = c.from_be_bytes-high.ensures ∙ c.to_be_bytes.ensures.bytes in
    same_from_bytes High _ g.U.Primitive.BYTES _ _ g.met.U.Numeric.size_law below within (sym (law.be_law r below)
    ∙ same ∙ law.be_law c.args.value within)

pub returns-clause-low : goal.returns-clause-low
returns-clause-low g c =
    let u = g.U.UnsignedInteger in
    let law = g.met.U.UnsignedInteger in
    let r = c.from_le_bytes-low.result in
    let below = law.known_law r c.known-3.ensures in
    let within = law.known_law c.args.value c.known.ensures in
    let same = c.from_le_bytes-low.ensures ∙ c.to_le_bytes.ensures.bytes in
    same_from_bytes Low _ g.U.Primitive.BYTES _ _ g.met.U.Numeric.size_law below within (sym (law.le_law r below) ∙ same
    ∙ law.le_law c.args.value within)
