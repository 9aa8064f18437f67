use Rattle.std.proofs.Common.{ap, sym, ◌∙◌}
use Rattle.bitstream_number.specs.Word.{Low, word, bits}
use Rattle.bitstream_number.proofs.WordLemmas.{bits-bytes}
use Rattle.bitstream_order.proofs.order.LittleEndianEndianness.to_bytes.Goals as goal

pub returns-clause-bits : goal.returns-clause-bits
returns-clause-bits g c =
    let law = g.met.U.UnsignedInteger in
    let v = c.args.value in
    let below = law.known_law v c.known.ensures in
    ap (bits Low) (c.to_le_bytes.ensures.bytes ∙ law.le_law v below)
    ∙ bits-bytes Low g.U.Primitive.BYTES (g.U.UnsignedInteger.value v)
    ∙ ap (λ n. word Low n (g.U.UnsignedInteger.value v)) (sym g.met.U.Numeric.size_law)
