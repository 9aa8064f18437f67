use Rattle.std.proofs.Common.{◌≡◌, ◌≤◌, ◌∙◌, ◌∷◌, [], ℕ, ℤ, List, Err, Vec, Global, ap, arith, inl, inr, length, refl, subst, sym}
use Rattle.std.specs.Prelude.{map}
use Rattle.std.proofs.lemmas.List.{map-append}
use Rattle.bitstream_io.specs.Callers.{OutOfMemory}
use Rattle.flac_codec.specs.File.{blocks_at}
use Rattle.flac_codec.specs.declared.error.FlacError.TheVariants.{Reader}
use Rattle.flac_codec.proofs.FileLemmas.{blocks-end, blocks-next, blocks-stop, none-left, some-left}
use Rattle.flac_codec.proofs.FoundLemmas.{not-refused, refused-as, rest-all}
use Rattle.flac_codec.proofs.ResultLemmas.{seen_is}
use Rattle.flac_codec.proofs.file.decode_blocks.Goals as goal

pub loop-rest-init : goal.loop-rest-init
loop-rest-init c = rw c.new-blocks.ensures.items (length c.args.bytes.now, omega arith, refl)

pub returns-in_err-frame : goal.returns-in_err-frame
returns-in_err-frame c =
    let is = seen_is _ _ _ c.from_residual.ensures.1 in
    let rest = c.loop-rest.rest.now in
    let more = some-left rest c.is_empty.ensures c.loop-rest-test.true in
    elim c.in_err-frame.ensures.found [
      | inl same ↦ inl (is ∙ blocks-stop c.loop-rest.invariant.0 c.args.info.now rest _ c.loop-rest.invariant.1 more same
          ∙ sym c.loop-rest.invariant.2)
      | inr refused ↦ inr (is ∙ ap Err (refused-as refl refused))
    ]

pub returns-in_err-push : goal.returns-in_err-push
returns-in_err-push c = inr (seen_is _ (Reader OutOfMemory) _ c.from_residual-in_err-push.ensures.1)

pub loop-rest-preserved : goal.loop-rest-preserved
loop-rest-preserved c =
    let view = λ (block : Vec (Vec ℤ Global) Global). map (λ (channel : Vec ℤ Global). channel.items) block.items in
    let frame = c.in_ok-frame.frame in
    let rest = c.loop-rest.rest.now in
    let info = c.args.info.now in
    let bytes = c.args.bytes.now in
    let more = some-left rest c.is_empty.ensures c.loop-rest-test.true in
    let items = ap (map view) c.in_ok-push.ensures.items ∙ map-append view c.loop-rest.blocks.items (frame.channels ∷ []) in
    elim c.in_ok-frame.ensures.found [
      | inl same ↦
          let next = blocks-next c.loop-rest.invariant.0 info rest (map view c.loop-rest.blocks.items) c.loop-rest.invariant.1 more
          c.in_ok-frame.ensures.some same in
          subst (λ (xs : List ℕ). (n : ℕ) × (length xs ≤ n)
          × (blocks_at (length bytes) info bytes [] ≡ blocks_at n info xs (map view c.push.new.self.items)))
          (sym (rest-all rest frame.size))
          (next.0, next.1, c.loop-rest.invariant.2 ∙ next.2 ∙ ap (blocks_at next.0 info _) (sym items))
      | inr refused ↦ absurd (not-refused refused)
    ]

pub returns : goal.returns
returns c =
    let none = none-left c.loop-rest.rest.now c.is_empty.ensures c.loop-rest-test.false in
    inl (sym (c.loop-rest.invariant.2 ∙ blocks-end c.loop-rest.invariant.0 c.args.info.now c.loop-rest.rest.now _ none))
