use borrow.Author.Rules.{sfits_of}
use Rattle.std.proofs.Common.{◌<◌, ◌^◌, refl, w64, pos, SFits, slice_index_or}
use Rattle.std.proofs.lemmas.List.{take_all}
use Rattle.std.proofs.lemmas.List.Elements.{All-get_or}
use Rattle.std.proofs.lemmas.Int.{to_z-of_z}
use Rattle.bitstream_io.specs.Word.{zig}
use Rattle.bitstream_io.proofs.CallerLemmas.{written-begin, written-more, written-stop}
use Rattle.flac_codec.specs.Rice.{rice_writes}
use Rattle.flac_codec.proofs.numbers.write_numbers.Goals as goal

pub loop-number-init : goal.loop-number-init
loop-number-init g c = written-begin g.W.BitWrite.sink (rice_writes g.W.BitWrite.sink.order c.args.parameter) c.args.numbers.now _

pub write_rice-requires-clause-fits : goal.write_rice-requires-clause-fits
write_rice-requires-clause-fits g c =
    let fits : SFits w64 (slice_index_or c.args.numbers.now c.loop-number.number-index (pos 0)) = search sfits_of in
    rw (to_z-of_z w64 _ fits)
    (All-get_or (λ x. zig x < 2 ^ 32) c.args.numbers.now c.loop-number.number-index (pos 0) c.loop-number-test.true c.requires.fit)

pub returns-in_err-write_rice : goal.returns-in_err-write_rice
returns-in_err-write_rice g c =
    let K = g.W.BitWrite.sink in
    let fits : SFits w64 (slice_index_or c.args.numbers.now c.loop-number.number-index (pos 0)) = search sfits_of in
    let writes = rw (to_z-of_z w64 _ fits) at c.in_err-write_rice.ensures in
    written-stop K (rice_writes K.order c.args.parameter) c.args.numbers.now _ _ (pos 0) _ _ _ _ _ c.loop-number-test.true refl
    c.loop-number.invariant writes c.from_residual.ensures.1

pub loop-number-preserved : goal.loop-number-preserved
loop-number-preserved g c =
    let K = g.W.BitWrite.sink in
    let fits : SFits w64 (slice_index_or c.args.numbers.now c.loop-number.number-index (pos 0)) = search sfits_of in
    let writes = rw (to_z-of_z w64 _ fits) at c.in_ok-write_rice.ensures in
    written-more K (rice_writes K.order c.args.parameter) c.args.numbers.now _ _ (pos 0) _ _ _ c.loop-number-test.true refl
    c.loop-number.invariant writes

pub returns : goal.returns
returns g c = rw (take_all _ c.args.numbers.now c.loop-number-test.false) at c.loop-number.invariant
