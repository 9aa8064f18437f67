use Rattle.std.proofs.Common.{arith, ◌≡◌, ◌-◌, ◌∷◌, [], ℕ, zero, suc, true, Result, refl, subst}
use Rattle.bitstream_io.specs.Callers.{bit, unary_word, Error, Sink, WritesAll}
use Rattle.bitstream_io.proofs.WriteParts.{all_one}
use Rattle.bitstream_io.proofs.WriteSteps.{next_call, stop_call}
use Rattle.flac_codec.specs.Subframe.{wasted_writes}
use Rattle.flac_codec.proofs.writing.write_wasted.Goals as goal

some_wasted : {S : Type 0} (K : Sink S) (wasted : ℕ) (s t : S) (r : Result (Unit {0}) Error) → (wasted ≡ 0 → ⊥)
    → WritesAll K (bit true ∷ unary_word true (wasted - 1) ∷ []) s r t → WritesAll K (wasted_writes wasted) s r t
some_wasted K zero s t r some h = absurd (some refl)
some_wasted K (suc w) s t r some h =
    let one : suc w - 1 ≡ w = omega arith in
    subst (λ n. WritesAll K (bit true ∷ unary_word true n ∷ []) s r t) one h

pub returns-then-wasted-eq0 : goal.returns-then-wasted-eq0
returns-then-wasted-eq0 g c =
    let K = g.W.BitWrite.sink in
    rw c.if-wasted-eq0.true (all_one K _ _ _ _ c.write_bit.ensures.writes)

pub returns-in_err-write_bit : goal.returns-in_err-write_bit
returns-in_err-write_bit g c =
    some_wasted g.W.BitWrite.sink c.args.wasted _ _ _ c.if-wasted-eq0.false
    (stop_call _ _ _ _ _ _ _ c.from_residual.ensures.1 c.in_err-write_bit.ensures.writes)

pub returns : goal.returns
returns g c =
    let K = g.W.BitWrite.sink in
    some_wasted K c.args.wasted _ _ _ c.if-wasted-eq0.false
    (next_call _ _ _ _ _ _ _ c.in_ok-write_bit.ensures.writes (all_one K _ _ _ _ c.write_unary.ensures.writes))
