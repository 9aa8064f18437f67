use borrow.Author.Rules.{sfits_of}
use Rattle.std.proofs.Common.{◌≡◌, ◌∙◌, ◌+◌, ◌∷◌, [], ℕ, length, ap, refl, arith, w64, SFits}
use Rattle.std.proofs.lemmas.Int.{to_z-of_z}
use Rattle.std.proofs.lemmas.List.{length-append}
use Rattle.bitstream_io.specs.ReadTable.{signed_decoder}
use Rattle.bitstream_io.proofs.CallerLemmas.{item-read, items-begin, items-push, items-stop, items-refused, grown}
use Rattle.bitstream_io.proofs.ReadsLemmas.{map_err}
use Rattle.flac_codec.proofs.numbers.read_samples.Goals as goal

pub loop-init : goal.loop-init
loop-init g c = (items-begin _ c.new-found.ensures.items, ap length c.new-found.ensures.items)

pub returns-in_err-read_var-clause-reads : goal.returns-in_err-read_var-clause-reads
returns-in_err-read_var-clause-reads g c =
    grown (items-stop _ _ _ _ c.from_residual.result c.loop-test.true c.loop.invariant.0
    (item-read c.in_err-read_var.ensures.reads) c.from_residual.ensures.1)

pub returns-in_err-push-clause-reads : goal.returns-in_err-push-clause-reads
unfolding signed_decoder
returns-in_err-push-clause-reads g c =
    rw (map_err _ c.from_residual-in_err-push.result c.from_residual-in_err-push.ensures.1)
    (items-refused (signed_decoder g.R.BitRead.source.order 64 c.args.width) _ c.args.count refl c.loop-test.true
    c.loop.invariant.0 c.in_ok-read_var.ensures.reads)

pub loop-preserved : goal.loop-preserved
loop-preserved g c =
    let fits : SFits w64 c.in_ok-read_var.field-0 = search (sfits_of, c.in_ok-read_var) in
    let item = rw (to_z-of_z w64 c.in_ok-read_var.field-0 fits) at c.in_ok-push.ensures.items in (
      items-push _ _ item c.loop.invariant.0 (item-read c.in_ok-read_var.ensures.reads),
      ap length item ∙ length-append c.loop.found.items (c.in_ok-read_var.field-0 ∷ []) ∙ ap (λ (n : ℕ). n + 1) c.loop.invariant.1,
    )

pub returns-clause-reads : goal.returns-clause-reads
returns-clause-reads g c =
    let all : c.loop.counter ≡ c.args.count = omega (arith, c.loop-test.false, c.loop.auto.counter-end) in
    grown (rw (← all) c.loop.invariant.0)

pub returns-clause-size : goal.returns-clause-size
returns-clause-size g c =
    let all : c.loop.counter ≡ c.args.count = omega (arith, c.loop-test.false, c.loop.auto.counter-end) in
    c.loop.invariant.1 ∙ all
