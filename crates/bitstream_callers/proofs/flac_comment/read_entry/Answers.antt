use Rattle.std.proofs.Common.{◌≡◌, ◌<◌, true, false, refl, ap, subst}
use Rattle.std.specs.Str.{IsUtf8, is_utf8}
use Rattle.std.specs.String.{string_bytes}
use Rattle.std.proofs.lemmas.Str.{IsUtf8-string_bytes, is_utf8-from_IsUtf8}
use Rattle.bitstream_io.specs.Word.{Low}
use Rattle.bitstream_io.proofs.CallerLemmas.{go_grown, stop_grown, grown, grown_is, vec-grown, bytes_number-read, bytes_number-stops}
use Rattle.bitstream_io.proofs.GrowsLemmas.{is_map_err}
use Rattle.bitstream_callers.proofs.VorbisLemmas.{no_text}
use Rattle.bitstream_callers.proofs.flac_comment.read_entry.Goals as goal

pub returns-in_err-size : goal.returns-in_err-size
returns-in_err-size g c =
    let o = g.R.BitRead.source.order in
    record {
      reads = stop_grown _ (grown (bytes_number-stops o Low 4 c.in_err-size.ensures.reads))
          (is_map_err string_bytes _ c.from_residual.result c.from_residual.ensures.1);
    }

pub returns-in_err-bytes : goal.returns-in_err-bytes
returns-in_err-bytes g c =
    let o = g.R.BitRead.source.order in
    let size = rw c.in_ok-size.is at c.branch-size.type_inv in
    let below : c.in_ok-size.size < 4294967296 = size.1.1.1.1.0.1 in
    record {
      reads = go_grown _ (grown (bytes_number-read o Low 4 c.in_ok-size.ensures.reads below))
          (stop_grown _ (vec-grown _ _ c.in_err-bytes.ensures.reads)
          (is_map_err string_bytes _ c.from_residual-in_err-bytes.result c.from_residual-in_err-bytes.ensures.1));
    }

pub returns-in-Ok : goal.returns-in-Ok
returns-in-Ok g c =
    let o = g.R.BitRead.source.order in
    let size = rw c.in_ok-size.is at c.branch-size.type_inv in
    let below : c.in_ok-size.size < 4294967296 = size.1.1.1.1.0.1 in
    let bytes = c.in_ok-bytes.bytes.items in
    let is : string_bytes c.in-Ok.text ≡ bytes = ap (λ v. v.items) c.in-Ok.ensures.ok in
    let utf8 : is_utf8 bytes ≡ true = is_utf8-from_IsUtf8 bytes (subst IsUtf8 is (IsUtf8-string_bytes c.in-Ok.text)) in
    record {
      reads = go_grown _ (grown (bytes_number-read o Low 4 c.in_ok-size.ensures.reads below))
          (go_grown _ (vec-grown _ _ c.in_ok-bytes.ensures.reads) (grown_is (rw (utf8, is) refl)));
    }

pub returns : goal.returns
returns g c =
    let o = g.R.BitRead.source.order in
    let size = rw c.in_ok-size.is at c.branch-size.type_inv in
    let below : c.in_ok-size.size < 4294967296 = size.1.1.1.1.0.1 in
    let bytes = c.in_ok-bytes.bytes.items in
    let utf8 : is_utf8 bytes ≡ false = no_text bytes (is_utf8 bytes) refl (λ u. let p = c.in-Err.ensures.succeeds u in cc)
    in
    record {
      reads = go_grown _ (grown (bytes_number-read o Low 4 c.in_ok-size.ensures.reads below))
          (go_grown _ (vec-grown _ _ c.in_ok-bytes.ensures.reads) (grown_is (rw utf8 refl)));
    }
