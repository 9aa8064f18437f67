use Rattle.bitstream_io.proofs.CallerLemmas.{◌≡◌, ◌+◌, arith, refl, is_error, few_growing_reads, then_grown_read, if_grown, part_go, part_stop, parts-begin, parts-push, parts-stop, parts-refused, grown_end}
use Rattle.std.proofs.Common.{Err, false}
use Rattle.bitstream_io.specs.Error.TheVariants.{Failed}
use Rattle.bitstream_io.specs.Word.{Order}
use Rattle.bitstream_io.specs.Codec.{and_then}
use Rattle.bitstream_io.specs.ReadTable.{unsigned_decoder}
use Rattle.bitstream_callers.specs.ParameterSet.{point_reads}
use Rattle.bitstream_callers.proofs.parameter_set.ParameterSetFromBitStreamUsing.from_reader.Goals as goal

pub returns-in_err-profile : goal.returns-in_err-profile
returns-in_err-profile g c = search few_growing_reads depth 12

pub returns-in_err-count : goal.returns-in_err-count
returns-in_err-count g c = search few_growing_reads depth 12

pub loop-init : goal.loop-init
loop-init g c = parts-begin _ c.new-points.ensures.items

pub returns-in_err-parse : goal.returns-in_err-parse
returns-in_err-parse g c =
    let o = g.R.BitRead.source.order in
    record {
      reads = then_grown_read _ c.read.ensures.reads c.branch-profile.ensures c.in_ok-profile.is
          (then_grown_read _ c.read-2.ensures.reads c.branch-count.ensures c.in_ok-count.is
          (part_stop _ (parts-stop (point_reads o) c.loop.counter c.in_ok-count.count c.loop-test.true c.loop.invariant
          (if_grown false c.in_err-parse.ensures.reads)) (is_error _ _ c.from_residual-in_err-parse.ensures.1)));
    }

-- a reader that has failed reads no point
point-on_failed : (o : Order) → (point_reads o).on_failed ≡ Err Failed
unfolding and_then unsigned_decoder
point-on_failed o = refl

pub returns-in_err-push : goal.returns-in_err-push
returns-in_err-push g c =
    let o = g.R.BitRead.source.order in
    record {
      reads = then_grown_read _ c.read.ensures.reads c.branch-profile.ensures c.in_ok-profile.is
          (then_grown_read _ c.read-2.ensures.reads c.branch-count.ensures c.in_ok-count.is
          (part_stop _ (parts-refused (point_reads o) c.loop.counter c.in_ok-count.count (point-on_failed o) c.loop-test.true
          c.loop.invariant (if_grown false c.in_ok-parse.ensures.reads) refl)
          (is_error _ _ c.from_residual-in_err-push.ensures.1)));
    }

pub loop-preserved : goal.loop-preserved
loop-preserved g c =
    parts-push (point_reads g.R.BitRead.source.order) _ c.in_ok-push.ensures.items c.loop.invariant
    (if_grown false c.in_ok-parse.ensures.reads)

pub returns : goal.returns
returns g c =
    let all : c.loop.counter ≡ c.in_ok-count.count = omega (arith, c.loop-test.false, c.loop.auto.counter-end) in
    record {
      reads = then_grown_read _ c.read.ensures.reads c.branch-profile.ensures c.in_ok-profile.is
          (then_grown_read _ c.read-2.ensures.reads c.branch-count.ensures c.in_ok-count.is
          (part_go _ (rw (← all) c.loop.invariant) (grown_end _ _)));
    }
