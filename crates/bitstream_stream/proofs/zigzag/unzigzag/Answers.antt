use Rattle.std.proofs.Common.{arith, ◌≡◌, ◌≤◌, sym, ◌∙◌}
use Rattle.bitstream_stream.proofs.Reading.GroupLemmas.{apart}
use Rattle.bitstream_stream.proofs.ZigzagLemmas.{half_below, turned_below, even_back, odd_back}
use Rattle.bitstream_stream.proofs.zigzag.unzigzag.Given.{Over}
use Rattle.bitstream_stream.proofs.zigzag.unzigzag.Goals as goal

-- a type has bits
some : (g : Over) → 1 ≤ g.S.Unsigned.Numeric.BITS_SIZE
some g =
    let bytes = g.met.S.Unsigned.Numeric.size_law in
    let least = g.met.S.Unsigned.Numeric.least_law in
    omega (arith, bytes, least)

pub as_non_negative-requires : goal.as_non_negative-requires
as_non_negative-requires g c =
    let law = g.met.S.Unsigned.UnsignedInteger in
    half_below _ _ _ (some g) (law.known_law _ c.known.ensures) (law.shr_law _ _ _ c.shr.ensures)

pub as_negative-requires-clause-some : goal.as_negative-requires-clause-some
as_negative-requires-clause-some g c = rw (c.BITS_SIZE.ensures, ← g.met.S.SignedInteger.same_size_law) (some g)

pub as_negative-requires-clause-within : goal.as_negative-requires-clause-within
as_negative-requires-clause-within g c =
    omega (arith, c.BITS_SIZE.ensures, g.met.S.SignedInteger.same_size_law)

pub as_negative-requires-clause-below : goal.as_negative-requires-clause-below
as_negative-requires-clause-below g c =
    let law = g.met.S.Unsigned.UnsignedInteger in
    let turned = law.not_law _ _ c.not.ensures in
    rw (c.BITS_SIZE.ensures, ← g.met.S.SignedInteger.same_size_law)
    (half_below _ _ _ (some g) (turned_below _ _ _ turned) (law.shr_law _ _ _ c.shr-else-eq.ensures))

pub returns-then-eq : goal.returns-then-eq
returns-then-eq g c =
    let u = g.S.Unsigned.UnsignedInteger in
    let law = g.met.S.Unsigned.UnsignedInteger in
    let one : u.value c.ONE.result ≡ 1 = rw c.ONE.ensures law.ONE_value_law in
    let zero : u.value c.ZERO.result ≡ 0 = rw c.ZERO.ensures law.ZERO_value_law in
    even_back _ _ _ _ _ one (law.and_law _ _ _ c.bitand.ensures)
    ((law.eq_value_law _ _).0 (sym c.eq.ensures ∙ c.if-eq.true) ∙ zero) (law.shr_law _ _ _ c.shr.ensures)
    (sym (g.met.S.SignedInteger.signed_law _) ∙ c.as_non_negative.ensures)

pub returns-else-eq : goal.returns-else-eq
returns-else-eq g c =
    let u = g.S.Unsigned.UnsignedInteger in
    let law = g.met.S.Unsigned.UnsignedInteger in
    let one : u.value c.ONE.result ≡ 1 = rw c.ONE.ensures law.ONE_value_law in
    let zero : u.value c.ZERO.result ≡ 0 = rw c.ZERO.ensures law.ZERO_value_law in
    odd_back _ _ _ _ _ _ _ _ (c.BITS_SIZE.ensures ∙ sym g.met.S.SignedInteger.same_size_law) (some g)
    (law.known_law _ c.known.ensures) one (law.and_law _ _ _ c.bitand.ensures)
    (λ e. apart (sym ((law.eq_value_law _ _).1 (e ∙ sym zero)) ∙ sym c.eq.ensures ∙ c.if-eq.false))
    (law.not_law _ _ c.not.ensures) (law.shr_law _ _ _ c.shr-else-eq.ensures)
    (sym (g.met.S.SignedInteger.signed_law _) ∙ c.as_negative.ensures)
