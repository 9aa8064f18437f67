use Rattle.std.proofs.Common.{arith}
use Rattle.std.proofs.lemmas.Bool.{eq-eqb, le-ltb, lt-ltb, ne_eqb}
use Rattle.std.proofs.lemmas.Nat.{one_shl}
use Rattle.bitstream_io.proofs.CallerLemmas.{go_grown, stop_grown, grown, grown_end, if_growing, else_growing}
use Rattle.flac_codec.proofs.ResultLemmas.{map_stop}
use Rattle.flac_codec.proofs.residual.read_partitioned.Goals as goal

pub returns-in_err-partition_order : goal.returns-in_err-partition_order
returns-in_err-partition_order g c =
    stop_grown _ (grown c.in_err-partition_order.ensures.reads)
    (map_stop c.in_err-partition_order.field-0.0 c.from_residual.result c.from_residual.ensures.1)

pub returns-then-block_size-partitions-ne0 : goal.returns-then-block_size-partitions-ne0
returns-then-block_size-partitions-ne0 g c =
    let fits = c.in_ok-partition_order.ensures.fits in
    let shl = one_shl c.in_ok-partition_order.partition_order 32 (omega (arith, fits)) in
    let uneven = rw shl at c.if-block_size-partitions-ne0.true in
    go_grown _ (grown c.in_ok-partition_order.ensures.reads) (else_growing _ _ _ (ne_eqb _ 0 uneven) (grown_end _ _))

pub returns-then-length-order : goal.returns-then-length-order
returns-then-length-order g c =
    let fits = c.in_ok-partition_order.ensures.fits in
    let shl = one_shl c.in_ok-partition_order.partition_order 32 (omega (arith, fits)) in
    let even = rw shl at c.if-block_size-partitions-ne0.false in
    let short = rw shl at c.if-length-order.true in
    go_grown _ (grown c.in_ok-partition_order.ensures.reads) (if_growing _ _ _ (eq-eqb _ 0 even)
    (if_growing _ _ _ (lt-ltb _ _ short) (grown_end _ _)))

pub returns : goal.returns
returns g c =
    let fits = c.in_ok-partition_order.ensures.fits in
    let shl = one_shl c.in_ok-partition_order.partition_order 32 (omega (arith, fits)) in
    let even = rw shl at c.if-block_size-partitions-ne0.false in
    let long = rw shl at c.if-length-order.false in
    let read = rw shl at c.read_partitions.ensures in
    go_grown _ (grown c.in_ok-partition_order.ensures.reads) (if_growing _ _ _ (eq-eqb _ 0 even)
    (else_growing _ _ _ (le-ltb _ _ long) read))
