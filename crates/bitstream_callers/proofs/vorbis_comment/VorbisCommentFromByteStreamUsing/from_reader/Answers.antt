use Rattle.std.proofs.Common.{◌≡◌, ◌+◌, ◌<◌, arith, refl}
use Rattle.bitstream_io.specs.Word.{Low}
use Rattle.bitstream_io.proofs.CallerLemmas.{is_error}
use Rattle.bitstream_io.proofs.ByteGrowsLemmas.{few_growing_byte_reads, then_grown_number, then_growing_byte_part, byte_part_go, byte_part_stop, byte_parts-begin, byte_parts-push, byte_parts-stop, byte_parts-refused, grown_bytes_end}
use Rattle.bitstream_callers.specs.VorbisComment.{text_reads}
use Rattle.bitstream_callers.proofs.vorbis_comment.VorbisCommentFromByteStreamUsing.from_reader.Goals as goal

pub returns-in_err-vendor : goal.returns-in_err-vendor
returns-in_err-vendor g c = search few_growing_byte_reads depth 12

pub returns-in_err-count : goal.returns-in_err-count
returns-in_err-count g c = search few_growing_byte_reads depth 12

pub loop-init : goal.loop-init
loop-init g c = byte_parts-begin _ c.new-comments.ensures.items

pub returns-in_err-parse_using : goal.returns-in_err-parse_using
returns-in_err-parse_using g c =
    let count = rw c.in_ok-count.is at c.branch-count.type_inv in
    let below : c.in_ok-count.count < 4294967296 = count.1.1.1.1.0.1 in
    record {
      reads = then_growing_byte_part _ c.parse_using.ensures.reads c.branch-vendor.ensures c.in_ok-vendor.is
          (then_grown_number Low 4 _ c.read_as.ensures.reads c.branch-count.ensures c.in_ok-count.is below
          (byte_part_stop _ (byte_parts-stop text_reads c.loop.counter c.in_ok-count.count c.loop-test.true
          c.loop.invariant c.in_err-parse_using.ensures.reads) (is_error _ _ c.from_residual-in_err-parse_using.ensures.1)));
    }

pub returns-in_err-push : goal.returns-in_err-push
returns-in_err-push g c =
    let count = rw c.in_ok-count.is at c.branch-count.type_inv in
    let below : c.in_ok-count.count < 4294967296 = count.1.1.1.1.0.1 in
    record {
      reads = then_growing_byte_part _ c.parse_using.ensures.reads c.branch-vendor.ensures c.in_ok-vendor.is
          (then_grown_number Low 4 _ c.read_as.ensures.reads c.branch-count.ensures c.in_ok-count.is below
          (byte_part_stop _ (byte_parts-refused text_reads c.loop.counter c.in_ok-count.count c.loop-test.true
          c.loop.invariant c.in_ok-parse_using.ensures.reads refl)
          (is_error _ _ c.from_residual-in_err-push.ensures.1)));
    }

pub loop-preserved : goal.loop-preserved
loop-preserved g c =
    byte_parts-push text_reads _ c.in_ok-push.ensures.items c.loop.invariant c.in_ok-parse_using.ensures.reads

pub returns : goal.returns
returns g c =
    let count = rw c.in_ok-count.is at c.branch-count.type_inv in
    let below : c.in_ok-count.count < 4294967296 = count.1.1.1.1.0.1 in
    let all : c.loop.counter ≡ c.in_ok-count.count = omega (arith, c.loop-test.false, c.loop.auto.counter-end) in
    record {
      reads = then_growing_byte_part _ c.parse_using.ensures.reads c.branch-vendor.ensures c.in_ok-vendor.is
          (then_grown_number Low 4 _ c.read_as.ensures.reads c.branch-count.ensures c.in_ok-count.is below
          (byte_part_go _ (rw (← all) c.loop.invariant) (grown_bytes_end _ _)));
    }
