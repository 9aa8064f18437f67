use Rattle.std.proofs.Common.{arith, not, ◌-◌, ◌/◌, ◌^◌, ap, replicate, sym, ◌∙◌}
use Rattle.std.proofs.lemmas.Nat.{pow_pos}
use Rattle.bitstream_stream.proofs.Writing.UnaryWrites.{zeros_others, ones_others}
use Rattle.bitstream_stream.proofs.write.run.run_without_stop.Goals as goal
use Rattle.bitstream_number.proofs.Masks.{mask-is}

pub returns-then-stop-clause-word : goal.returns-then-stop-clause-word
returns-then-stop-clause-word g c = λ o.
    zeros_others c.args.n _ (ap g.U.UnsignedInteger.value c.ZERO.ensures ∙ g.met.U.UnsignedInteger.ZERO_value_law) o
    ∙ ap (λ stop. replicate c.args.n (not stop)) (sym c.if-stop.true)

pub returns-else-stop-clause-word : goal.returns-else-stop-clause-word
returns-else-stop-clause-word g c = λ o.
    ones_others g.U.Numeric.BITS_SIZE c.args.n _ _ c.requires (ap g.U.UnsignedInteger.value c.ALL.ensures
    ∙ g.met.U.UnsignedInteger.ALL_law)
    (c.shr_default.ensures ∙ ap (λ w. g.U.UnsignedInteger.value c.ALL.result / 2 ^ (w - c.args.n)) c.BITS_SIZE.ensures)
    o
    ∙ ap (λ stop. replicate c.args.n (not stop)) (sym c.if-stop.false)

pub returns-else-stop-clause-below : goal.returns-else-stop-clause-below
returns-else-stop-clause-below g c =
    let is = mask-is g.U.Numeric.BITS_SIZE c.args.n _ _ c.requires (ap g.U.UnsignedInteger.value c.ALL.ensures
    ∙ g.met.U.UnsignedInteger.ALL_law)
    (c.shr_default.ensures ∙ ap (λ w. g.U.UnsignedInteger.value c.ALL.result / 2 ^ (w - c.args.n)) c.BITS_SIZE.ensures)
    in
    omega (arith, is, pow_pos c.args.n)
