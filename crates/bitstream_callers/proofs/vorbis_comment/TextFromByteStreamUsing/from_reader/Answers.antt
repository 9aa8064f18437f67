use Rattle.std.proofs.Common.{◌≡◌, ◌<◌, true, false, refl, ap, subst}
use Rattle.std.specs.Str.{IsUtf8, is_utf8}
use Rattle.std.specs.String.{string_bytes}
use Rattle.std.proofs.lemmas.Str.{IsUtf8-string_bytes, is_utf8-from_IsUtf8}
use Rattle.bitstream_io.specs.Word.{Low}
use Rattle.bitstream_io.proofs.ByteGrowsLemmas.{few_growing_byte_reads, then_grown_number, then_growing_bytes, end_growing_bytes, grown_bytes_is}
use Rattle.bitstream_callers.proofs.VorbisLemmas.{no_text}
use Rattle.bitstream_callers.proofs.vorbis_comment.TextFromByteStreamUsing.from_reader.Goals as goal

pub returns-in_err-size : goal.returns-in_err-size
returns-in_err-size g c = search few_growing_byte_reads depth 12

pub returns-in_err-bytes : goal.returns-in_err-bytes
returns-in_err-bytes g c =
    let size = rw c.in_ok-size.is at c.branch-size.type_inv in
    let below : c.in_ok-size.size < 4294967296 = size.1.1.1.1.0.1 in
    record {
      reads = then_grown_number Low 4 _ c.read_as.ensures.reads c.branch-size.ensures c.in_ok-size.is below
          (end_growing_bytes _ _ _ c.read_to_vec.ensures.reads c.branch-bytes.ensures c.in_err-bytes.is
          c.from_residual-in_err-bytes.ensures.1);
    }

pub returns-in-Ok : goal.returns-in-Ok
returns-in-Ok g c =
    let size = rw c.in_ok-size.is at c.branch-size.type_inv in
    let below : c.in_ok-size.size < 4294967296 = size.1.1.1.1.0.1 in
    let bytes = c.in_ok-bytes.bytes.items in
    let is : string_bytes c.in-Ok.text ≡ bytes = ap (λ v. v.items) c.in-Ok.ensures.ok in
    let utf8 : is_utf8 bytes ≡ true = is_utf8-from_IsUtf8 bytes (subst IsUtf8 is (IsUtf8-string_bytes c.in-Ok.text)) in
    record {
      reads = then_grown_number Low 4 _ c.read_as.ensures.reads c.branch-size.ensures c.in_ok-size.is below
          (then_growing_bytes _ _ _ c.read_to_vec.ensures.reads c.branch-bytes.ensures c.in_ok-bytes.is
          (grown_bytes_is (rw (utf8, is) refl)));
    }

pub returns : goal.returns
returns g c =
    let size = rw c.in_ok-size.is at c.branch-size.type_inv in
    let below : c.in_ok-size.size < 4294967296 = size.1.1.1.1.0.1 in
    let bytes = c.in_ok-bytes.bytes.items in
    let utf8 : is_utf8 bytes ≡ false = no_text bytes (is_utf8 bytes) refl (λ u. let p = c.in-Err.ensures.succeeds u in cc)
    in
    record {
      reads = then_grown_number Low 4 _ c.read_as.ensures.reads c.branch-size.ensures c.in_ok-size.is below
          (then_growing_bytes _ _ _ c.read_to_vec.ensures.reads c.branch-bytes.ensures c.in_ok-bytes.is
          (grown_bytes_is (rw utf8 refl)));
    }
