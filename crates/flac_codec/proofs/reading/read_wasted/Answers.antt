use Rattle.std.proofs.Common.{◌+◌, refl}
use Rattle.std.specs.Prelude.{map}
use Rattle.std.proofs.lemmas.Bool.{le-ltb, lt-ltb}
use Rattle.bitstream_io.specs.ReadTable.{unary_decoder}
use Rattle.bitstream_io.proofs.CallerLemmas.{go_grown, stop_grown, grown, grown_end, if_growing, else_growing, part_go, part_stop}
use Rattle.flac_codec.specs.Subframe.{widened}
use Rattle.flac_codec.proofs.ResultLemmas.{fine_after, fine_still_part, map_is, map_stop, store_done, store_refused}
use Rattle.flac_codec.proofs.reading.read_wasted.Goals as goal

pub returns-in_err-more : goal.returns-in_err-more
returns-in_err-more g c =
    stop_grown _ (grown c.in_err-more.ensures.reads)
    (map_stop c.in_err-more.field-0.0 c.from_residual.result c.from_residual.ensures.1)

pub returns-then-more-ge63 : goal.returns-then-more-ge63
returns-then-more-ge63 g c =
    go_grown _ (grown c.in_ok-more.ensures.reads) (else_growing _ _ _ (le-ltb _ 63 c.if-more-ge63.true) (grown_end _ _))

pub returns-then-wasted-width : goal.returns-then-wasted-width
returns-then-wasted-width g c =
    go_grown _ (grown c.in_ok-more.ensures.reads) (if_growing _ _ _ (lt-ltb _ 63 c.if-more-ge63.false)
    (else_growing _ _ _ (le-ltb _ _ c.if-wasted-width.true) (grown_end _ _)))

pub returns-in_err-samples : goal.returns-in_err-samples
returns-in_err-samples g c =
    go_grown _ (grown c.in_ok-more.ensures.reads) (if_growing _ _ _ (lt-ltb _ 63 c.if-more-ge63.false)
    (if_growing _ _ _ (lt-ltb _ _ c.if-wasted-width.false) (part_stop _ c.in_err-samples.ensures
    (map_is c.in_err-samples.field-0.0 c.from_residual-in_err-samples.result c.from_residual-in_err-samples.ensures.1))))

pub returns-in_err-widened : goal.returns-in_err-widened
unfolding unary_decoder
returns-in_err-widened g c =
    let read = grown c.in_ok-more.ensures.reads in
    go_grown _ read (if_growing _ _ _ (lt-ltb _ 63 c.if-more-ge63.false)
    (if_growing _ _ _ (lt-ltb _ _ c.if-wasted-width.false) (part_go _ c.in_ok-samples.ensures
    (store_refused (map (widened (c.in_ok-more.more + 1)) c.in_ok-samples.samples.items) c.from_residual-in_err-widened.result
    (fine_still_part (fine_after refl read) c.in_ok-samples.ensures) c.from_residual-in_err-widened.ensures.1))))

pub returns : goal.returns
returns g c =
    let items = rw c.as_slice.ensures.value at c.in_ok-widened.ensures in
    go_grown _ (grown c.in_ok-more.ensures.reads) (if_growing _ _ _ (lt-ltb _ 63 c.if-more-ge63.false)
    (if_growing _ _ _ (lt-ltb _ _ c.if-wasted-width.false) (part_go _ c.in_ok-samples.ensures (store_done _ _ items))))
