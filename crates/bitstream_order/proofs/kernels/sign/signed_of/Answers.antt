use Rattle.std.proofs.Common.{arith, ◌≡◌, ◌<◌, ◌≤◌, ◌-◌, ◌^◌, ◌∙◌, sym, ap, ap₂, subst, false}
use Rattle.std.specs.Prelude.{pos, ◌-ℤ◌}
use Rattle.bitstream_number.proofs.WordLemmas.{half}
use Rattle.bitstream_order.proofs.Moving.SignLemmas.{half_is, number_not_less, signed_from-negative, turned-is, turned-below, half-below, difference-fits}
use Rattle.bitstream_order.proofs.kernels.sign.signed_of.Given.{Over}
use Rattle.bitstream_order.proofs.kernels.sign.signed_of.Goals.{After-BITS_SIZE, After-bitxor, After-as_non_negative-then-bits-BITS_SIZE, After-lt}
use Rattle.bitstream_order.proofs.kernels.sign.signed_of.Goals as goal

-- the number of the sign's bit
half-number : (g : Over) (c : After-BITS_SIZE g)
    → g.S.Unsigned.UnsignedInteger.value c.shl_default-half.result ≡ 2 ^ (c.args.bits - 1)
half-number g c =
    let one = ap g.S.Unsigned.UnsignedInteger.value c.ONE.ensures ∙ g.met.S.Unsigned.UnsignedInteger.ONE_value_law in
    let same = g.met.S.SignedInteger.same_size_law in
    let within = c.requires.within in
    half_is _ _ _ _ one (omega (arith, same, within)) c.shl_default-half.ensures

-- if the comparison with that bit is false, the word is at least that bit
not_below : (g : Over) (c : After-lt g) → c.lt.result ≡ false
    → g.S.Unsigned.UnsignedInteger.value c.shl_default-half.result ≤ g.S.Unsigned.UnsignedInteger.value c.args.word
not_below g c = number_not_less g.S.Unsigned.PartialOrd.partial_cmp c.args.word c.shl_default-half.result _ _ _
    (g.met.S.Unsigned.UnsignedInteger.order_value_law _ _) c.lt.ensures

-- the word with the sign bit flipped is below half of the type's range
turned : (g : Over) (c : After-bitxor g) → c.args.bits < g.S.Numeric.BITS_SIZE
    → g.S.Unsigned.UnsignedInteger.value c.shl_default-half.result ≡ 2 ^ (c.args.bits - 1)
    → g.S.Unsigned.UnsignedInteger.value c.bitxor.result < 2 ^ (g.S.Numeric.BITS_SIZE - 1)
turned g c less is = turned-below c.args.bits g.S.Numeric.BITS_SIZE _ _ _ less c.requires.below is
    (g.met.S.Unsigned.UnsignedInteger.xor_law _ _ _ c.bitxor.ensures) c.requires.some

-- the two as numbers of the signed type
number-of : (g : Over) (c : After-as_non_negative-then-bits-BITS_SIZE g)
    → (g.S.Numeric.integer c.as_non_negative.result ≡ pos (g.S.Unsigned.UnsignedInteger.value c.bitxor.result))
    × (g.S.Numeric.integer c.as_non_negative-then-bits-BITS_SIZE.result
    ≡ pos (g.S.Unsigned.UnsignedInteger.value c.shl_default-half.result))
number-of g c = (
  sym (g.met.S.SignedInteger.signed_law c.as_non_negative.result) ∙ c.as_non_negative.ensures,
  sym (g.met.S.SignedInteger.signed_law c.as_non_negative-then-bits-BITS_SIZE.result)
      ∙ c.as_non_negative-then-bits-BITS_SIZE.ensures,
)

-- their difference is a number of the type
fits : (g : Over) (c : After-as_non_negative-then-bits-BITS_SIZE g)
    → g.S.Unsigned.UnsignedInteger.value c.bitxor.result < 2 ^ (g.S.Numeric.BITS_SIZE - 1)
    → g.S.Unsigned.UnsignedInteger.value c.shl_default-half.result < 2 ^ (g.S.Numeric.BITS_SIZE - 1)
    → g.S.Numeric.fits (g.S.Numeric.integer c.as_non_negative.result
    -ℤ g.S.Numeric.integer c.as_non_negative-then-bits-BITS_SIZE.result)
fits g c below half_below =
    let is = number-of g c in
    rw (is.0, is.1) ((g.met.S.SignedInteger.fits_law _).1 (difference-fits g.S.Numeric.BITS_SIZE _ _ below half_below))

pub as_non_negative-requires : goal.as_non_negative-requires
as_non_negative-requires g c =
    let w = goal.at.as_non_negative-requires g c in
    subst (λ n. g.S.Unsigned.UnsignedInteger.value c.bitxor.result < 2 ^ (n - 1))
    (sym g.met.S.SignedInteger.same_size_law)
    (turned g w.After-bitxor (rw c.BITS_SIZE.ensures at c.if-bits-BITS_SIZE.true) (half-number g w.After-BITS_SIZE))

pub as_non_negative-requires-then-bits-BITS_SIZE : goal.as_non_negative-requires-then-bits-BITS_SIZE
as_non_negative-requires-then-bits-BITS_SIZE g c =
    let w = goal.at.as_non_negative-requires-then-bits-BITS_SIZE g c in
    subst (λ n. g.S.Unsigned.UnsignedInteger.value c.shl_default-half.result < 2 ^ (n - 1))
    (sym g.met.S.SignedInteger.same_size_law)
    (half-below c.args.bits g.S.Numeric.BITS_SIZE _ (rw c.BITS_SIZE.ensures at c.if-bits-BITS_SIZE.true)
    (half-number g w.After-BITS_SIZE) c.requires.some)

pub sub-requires : goal.sub-requires
sub-requires g c =
    let w = goal.at.sub-requires g c in
    let less : c.args.bits < g.S.Numeric.BITS_SIZE = rw c.BITS_SIZE.ensures at c.if-bits-BITS_SIZE.true in
    let is = half-number g w.After-BITS_SIZE in
    g.met.S.Numeric.can_sub_law _ _ (fits g w.After-as_non_negative-then-bits-BITS_SIZE (turned g w.After-bitxor less is)
    (half-below c.args.bits g.S.Numeric.BITS_SIZE _ less is c.requires.some))

pub as_negative-requires-clause-below : goal.as_negative-requires-clause-below
as_negative-requires-clause-below g c =
    let w = goal.at.as_negative-requires-clause-below g c in
    let is = half-number g w.After-BITS_SIZE in
    let rest = g.met.S.Unsigned.UnsignedInteger.sub_value_law _ _ _ c.sub-else-lt.ensures in
    let small = c.requires.below in
    let two = half c.args.bits c.requires.some in
    omega (arith, is, rest, small, two)

pub returns-then-bits-BITS_SIZE : goal.returns-then-bits-BITS_SIZE
returns-then-bits-BITS_SIZE g c =
    let w = goal.at.returns-then-bits-BITS_SIZE g c in
    let less : c.args.bits < g.S.Numeric.BITS_SIZE = rw c.BITS_SIZE.ensures at c.if-bits-BITS_SIZE.true in
    let half_is = half-number g w.After-BITS_SIZE in
    let is = number-of g w.After-as_non_negative-then-bits-BITS_SIZE in
    turned-is c.args.bits _ _ _ _ c.requires.some c.requires.below half_is
    (g.met.S.Unsigned.UnsignedInteger.xor_law _ _ _ c.bitxor.ensures)
    (g.met.S.Numeric.sub_law _ _ _ c.sub.ensures
    (fits g w.After-as_non_negative-then-bits-BITS_SIZE (turned g w.After-bitxor less half_is)
    (half-below c.args.bits g.S.Numeric.BITS_SIZE _ less half_is c.requires.some)) ∙ ap₂ (λ a b. a -ℤ b) is.0 is.1)

pub returns-else-lt : goal.returns-else-lt
returns-else-lt g c =
    let w = goal.at.returns-else-lt g c in
    let is = half-number g w.After-BITS_SIZE in
    let more = not_below g w.After-lt c.if-lt.false in
    let rest = g.met.S.Unsigned.UnsignedInteger.sub_value_law _ _ _ c.sub-else-lt.ensures in
    signed_from-negative c.args.bits _ _ _ c.requires.some c.requires.below (omega (arith, is, more)) (rest
    ∙ ap (λ h. g.S.Unsigned.UnsignedInteger.value c.args.word - h) is)
    (sym (g.met.S.SignedInteger.signed_law c.as_negative.result) ∙ c.as_negative.ensures)
