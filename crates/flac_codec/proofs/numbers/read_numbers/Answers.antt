use borrow.Author.Rules.{sfits_of}
use Rattle.std.proofs.Common.{◌≡◌, refl, arith, w64, SFits}
use Rattle.std.proofs.lemmas.Int.{to_z-of_z}
use Rattle.bitstream_io.specs.Codec.{and_then}
use Rattle.bitstream_io.specs.ReadTable.{unary_decoder}
use Rattle.bitstream_io.proofs.CallerLemmas.{item-read, items-begin, items-push, items-stop, items-refused, grown}
use Rattle.bitstream_io.proofs.ReadsLemmas.{map_err}
use Rattle.flac_codec.specs.Rice.{rice_decoder}
use Rattle.flac_codec.proofs.numbers.read_numbers.Goals as goal

pub loop-init : goal.loop-init
loop-init g c = items-begin _ c.new-found.ensures.items

pub returns-in_err-read_rice : goal.returns-in_err-read_rice
returns-in_err-read_rice g c =
    grown (items-stop _ _ _ _ c.from_residual.result c.loop-test.true c.loop.invariant
    (item-read c.in_err-read_rice.ensures) c.from_residual.ensures.1)

pub returns-in_err-push : goal.returns-in_err-push
unfolding and_then unary_decoder
returns-in_err-push g c =
    rw (map_err _ c.from_residual-in_err-push.result c.from_residual-in_err-push.ensures.1)
    (items-refused (rice_decoder g.R.BitRead.source.order c.args.parameter) _ c.args.count refl c.loop-test.true
    c.loop.invariant c.in_ok-read_rice.ensures)

pub loop-preserved : goal.loop-preserved
loop-preserved g c =
    let fits : SFits w64 c.in_ok-read_rice.field-0 = search (sfits_of, c.in_ok-read_rice) in
    let item = rw (to_z-of_z w64 c.in_ok-read_rice.field-0 fits) at c.in_ok-push.ensures.items in
    items-push _ _ item c.loop.invariant (item-read c.in_ok-read_rice.ensures)

pub returns : goal.returns
returns g c =
    let all : c.loop.counter ≡ c.args.count = omega (arith, c.loop-test.false, c.loop.auto.counter-end) in
    grown (rw (← all) c.loop.invariant)
