use borrow.Author.Rules.{sfits_of}
use Rattle.std.proofs.Common.{refl, w64, SFits}
use Rattle.std.specs.Prelude.{replicate}
use Rattle.std.proofs.lemmas.Int.{to_z-of_z}
use Rattle.bitstream_io.specs.ReadTable.{signed_decoder}
use Rattle.bitstream_io.proofs.CallerLemmas.{go_grown, stop_grown, grown}
use Rattle.flac_codec.proofs.ResultLemmas.{fine_after, map_stop, store_done, store_refused}
use Rattle.flac_codec.proofs.reading.read_constant.Goals as goal

pub returns-in_err-sample : goal.returns-in_err-sample
returns-in_err-sample g c =
    stop_grown _ (grown c.in_err-sample.ensures.reads) (map_stop c.in_err-sample.field-0.0 c.from_residual.result c.from_residual.ensures.1)

pub returns-in_err-repeated : goal.returns-in_err-repeated
unfolding signed_decoder
returns-in_err-repeated g c =
    let read = grown c.in_ok-sample.ensures.reads in
    go_grown _ read (store_refused (replicate c.args.block_size c.in_ok-sample.sample) c.from_residual-in_err-repeated.result
    (fine_after refl read) c.from_residual-in_err-repeated.ensures.1)

pub returns : goal.returns
returns g c =
    let fits : SFits w64 c.in_ok-sample.sample = search (sfits_of, c.in_ok-sample) in
    let items = rw (to_z-of_z w64 c.in_ok-sample.sample fits) at c.in_ok-repeated.ensures in
    go_grown _ (grown c.in_ok-sample.ensures.reads) (store_done _ _ items)
