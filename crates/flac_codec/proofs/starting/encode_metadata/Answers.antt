use Rattle.std.proofs.Common.{arith, ◌≡◌, ◌==◌, Bool, true, length, refl, subst, sym, ℕ}
use Rattle.std.proofs.lemmas.Bool.{eq-eqb}
use Rattle.flac_codec.specs.Encoding.{EndsMetadata}
use Rattle.flac_codec.proofs.EncodingLemmas.{none-ends}
use Rattle.flac_codec.proofs.starting.encode_metadata.Goals as goal

pub loop-left-init : goal.loop-left-init
loop-left-init c =
    let count = length c.args.blocks.now in (
      omega arith,
      subst (λ (b : Bool). EndsMetadata b c.new-bytes.result.items) (sym (eq-eqb count count refl))
          (subst (EndsMetadata true) (sym c.new-bytes.ensures.items) none-ends),
    )

pub returns : goal.returns
returns c =
    let none : c.loop-left.left ≡ 0 = omega (arith, c.loop-left-test.false) in
    subst (λ (k : ℕ). EndsMetadata (length c.args.blocks.now == k) c.loop-left.bytes.items) none c.loop-left.invariant.1
