use Rattle.std.proofs.Common.{ap, sym, ◌∙◌}
use Rattle.bitstream_number.specs.Word.{High, word, bits}
use Rattle.bitstream_number.proofs.WordLemmas.{bits-bytes}
use Rattle.bitstream_order.proofs.order.BigEndianEndianness.of_bytes.Goals as goal

pub returns-clause-word : goal.returns-clause-word
returns-clause-word g c =
    let law = g.met.U.UnsignedInteger in
    let v = c.from_be_bytes-value.result in
    let below = law.known_law v c.known.ensures in
    ap (λ n. word High n (g.U.UnsignedInteger.value v)) g.met.U.Numeric.size_law
    ∙ sym (bits-bytes High g.U.Primitive.BYTES (g.U.UnsignedInteger.value v))
    ∙ ap (bits High) (sym (law.be_law v below) ∙ c.from_be_bytes-value.ensures)

pub returns-clause-below : goal.returns-clause-below
returns-clause-below g c = g.met.U.UnsignedInteger.known_law _ c.known.ensures
