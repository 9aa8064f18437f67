use Rattle.std.proofs.Common.{◌≡◌, ◌∙◌, ◌++◌, ◌/◌, ◌^◌, ◌∷◌, [], ap, refl, subst, sym}
use Rattle.bitstream_io.specs.Callers.{OutOfMemory}
use Rattle.std.specs.Prelude.{bit_and, map}
use Rattle.flac_codec.specs.Checksum.{crc16}
use Rattle.flac_codec.specs.Frame.{frame_at, IsFoundIn}
use Rattle.flac_codec.proofs.FoundLemmas.{frame-found, two_bytes}
use Rattle.flac_codec.proofs.LosslessLemmas.{matched_error}
use Rattle.flac_codec.proofs.framing.encode_frame.Goals as goal

pub returns-in_err-bytes : goal.returns-in_err-bytes
returns-in_err-bytes c = matched_error _ _ OutOfMemory _ c.from_residual.ensures.1 c.in_err-bytes.ensures

pub returns-in_err-body : goal.returns-in_err-body
returns-in_err-body c = matched_error _ _ OutOfMemory _ c.from_residual-in_err-body.ensures.1 c.in_err-body.ensures

pub returns-in_err-extend_from_slice : goal.returns-in_err-extend_from_slice
returns-in_err-extend_from_slice c = matched_error _ _ OutOfMemory _ c.from_residual-in_err-extend_from_slice.ensures.1 refl

pub returns-in_err-push : goal.returns-in_err-push
returns-in_err-push c = matched_error _ _ OutOfMemory _ c.from_residual-in_err-push.ensures.1 refl

pub returns-in_err-push-2 : goal.returns-in_err-push-2
returns-in_err-push-2 c = matched_error _ _ OutOfMemory _ c.from_residual-in_err-push-2.ensures.1 refl

pub returns : goal.returns
returns c =
    let h = c.in_ok-bytes.bytes.items in
    let body = c.in_ok-body.body.items in
    let checksum = c.crc16-checksum.result in
    let high = checksum / 2 ^ 8 in
    let low = bit_and checksum 255 in
    let samples = map (λ channel. channel.items) c.args.channels.now in
    let both : c.extend_from_slice.new.self.items ≡ h ++ body =
    c.in_ok-extend_from_slice.ensures.items ∙ ap (λ b. h ++ b) c.as_slice.ensures.value in
    let whole : c.push-2.new.self.items ≡ ((h ++ body) ++ high ∷ []) ++ low ∷ [] =
    c.in_ok-push-2.ensures.items ∙ ap (λ xs. xs ++ low ∷ []) (c.in_ok-push.ensures.items ∙ ap (λ xs. xs ++ high ∷ []) both) in
    let crc : checksum ≡ crc16 (h ++ body) = c.crc16-checksum.ensures ∙ ap crc16 (c.as_slice-2.ensures.value ∙ both) in
    let inside = rw c.width_of-width.ensures at c.in_ok-body.ensures in
    subst (λ bytes. IsFoundIn (frame_at c.args.sample_size) bytes (c.args.header.now, samples)) (sym whole)
    (frame-found c.args.sample_size h body c.args.header.now samples high low c.in_ok-bytes.ensures inside
    (sym crc ∙ two_bytes checksum))
