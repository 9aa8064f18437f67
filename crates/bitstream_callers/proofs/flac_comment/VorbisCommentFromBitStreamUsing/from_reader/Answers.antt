use Rattle.std.proofs.Common.{◌≡◌, ◌+◌, ◌<◌, ap, ◌∙◌, arith, refl, Err}
use Rattle.std.specs.Prelude.{map}
use Rattle.std.specs.String.{string_bytes}
use Rattle.std.proofs.lemmas.List.{map-append}
use Rattle.bitstream_io.specs.Codec.{and_then}
use Rattle.bitstream_io.specs.ReadTable.{bytes_decoder}
use Rattle.bitstream_io.specs.Error.TheVariants.{Failed}
use Rattle.bitstream_io.specs.Word.{Order, Low}
use Rattle.bitstream_io.proofs.CallerLemmas.{is_error, go_grown, stop_grown, grown, part_go, part_stop, parts-begin, parts-push, parts-stop, parts-refused, grown_end, bytes_number-read, bytes_number-stops}
use Rattle.bitstream_callers.specs.FlacComment.{text_reads}
use Rattle.bitstream_callers.proofs.flac_comment.VorbisCommentFromBitStreamUsing.from_reader.Goals as goal

pub returns-in_err-vendor : goal.returns-in_err-vendor
returns-in_err-vendor g c = record {
  reads = part_stop _ c.in_err-vendor.ensures.reads (is_error _ _ c.from_residual.ensures.1);
}

pub returns-in_err-count : goal.returns-in_err-count
returns-in_err-count g c =
    let o = g.R.BitRead.source.order in
    record {
      reads = part_go _ c.in_ok-vendor.ensures.reads
          (stop_grown _ (grown (bytes_number-stops o Low 4 c.in_err-count.ensures.reads))
          c.from_residual-in_err-count.ensures.1);
    }

pub loop-init : goal.loop-init
loop-init g c = parts-begin _ (ap (λ texts. map string_bytes texts) c.new-comment.ensures.items)

pub returns-in_err-read_entry : goal.returns-in_err-read_entry
returns-in_err-read_entry g c =
    let o = g.R.BitRead.source.order in
    let count = rw c.in_ok-count.is at c.branch-count.type_inv in
    let below : c.in_ok-count.count < 4294967296 = count.1.1.1.1.0.1 in
    record {
      reads = part_go _ c.in_ok-vendor.ensures.reads
          (go_grown _ (grown (bytes_number-read o Low 4 c.in_ok-count.ensures.reads below))
          (part_stop _ (parts-stop (text_reads o) c.loop.counter c.in_ok-count.count c.loop-test.true c.loop.invariant
          c.in_err-read_entry.ensures.reads) (is_error _ _ c.from_residual-in_err-read_entry.ensures.1)));
    }

-- a reader that has failed reads no text
text-on_failed : (o : Order) → (text_reads o).on_failed ≡ Err Failed
unfolding and_then bytes_decoder
text-on_failed o = refl

pub returns-in_err-push : goal.returns-in_err-push
returns-in_err-push g c =
    let o = g.R.BitRead.source.order in
    let count = rw c.in_ok-count.is at c.branch-count.type_inv in
    let below : c.in_ok-count.count < 4294967296 = count.1.1.1.1.0.1 in
    record {
      reads = part_go _ c.in_ok-vendor.ensures.reads
          (go_grown _ (grown (bytes_number-read o Low 4 c.in_ok-count.ensures.reads below))
          (part_stop _ (parts-refused (text_reads o) c.loop.counter c.in_ok-count.count (text-on_failed o) c.loop-test.true
          c.loop.invariant c.in_ok-read_entry.ensures.reads refl)
          (is_error _ _ c.from_residual-in_err-push.ensures.1)));
    }

pub loop-preserved : goal.loop-preserved
loop-preserved g c =
    let more = ap (λ texts. map string_bytes texts) c.in_ok-push.ensures.items ∙ map-append string_bytes _ _ in
    parts-push (text_reads g.R.BitRead.source.order) _ more c.loop.invariant c.in_ok-read_entry.ensures.reads

pub returns : goal.returns
returns g c =
    let o = g.R.BitRead.source.order in
    let count = rw c.in_ok-count.is at c.branch-count.type_inv in
    let below : c.in_ok-count.count < 4294967296 = count.1.1.1.1.0.1 in
    let all : c.loop.counter ≡ c.in_ok-count.count = omega (arith, c.loop-test.false, c.loop.auto.counter-end) in
    record {
      reads = part_go _ c.in_ok-vendor.ensures.reads
          (go_grown _ (grown (bytes_number-read o Low 4 c.in_ok-count.ensures.reads below))
          (part_go _ (rw (← all) c.loop.invariant) (grown_end _ _)));
    }
