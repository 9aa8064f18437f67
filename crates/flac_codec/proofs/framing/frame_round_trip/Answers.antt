use Rattle.std.proofs.Common.{◌≡◌, ◌∙◌, [], Ok, ap, append-nil, inl, inr, length, refl, sym}
use Rattle.std.specs.Prelude.{map}
use Rattle.bitstream_io.specs.Callers.{OutOfMemory}
use Rattle.flac_codec.specs.Frame.{frame_at}
use Rattle.flac_codec.specs.declared.error.FlacError.TheVariants.{Reader}
use Rattle.flac_codec.proofs.FoundLemmas.{first-same, not-refused, refused-as}
use Rattle.flac_codec.proofs.LosslessLemmas.{matched_error}
use Rattle.flac_codec.proofs.framing.frame_round_trip.Goals as goal

pub returns-in_err-bytes : goal.returns-in_err-bytes
returns-in_err-bytes c =
    matched_error _ _ (Reader OutOfMemory) _ c.from_residual.ensures.1 (ap Reader c.in_err-bytes.ensures)

pub returns-in_err-frame : goal.returns-in_err-frame
returns-in_err-frame c =
    let items = map (λ channel. channel.items) c.args.channels.now in
    let bytes = c.in_ok-bytes.bytes.items in
    let found : frame_at c.args.sample_size c.as_slice.result.now ≡ Ok ((c.args.header.now, items), length bytes) =
    ap (frame_at c.args.sample_size) (c.as_slice.ensures.value ∙ sym (append-nil bytes)) ∙ c.in_ok-bytes.ensures [] in
    elim c.in_err-frame.ensures.found [
      | inl same ↦ absurd (not-refused (sym (same ∙ found)))
      | inr refused ↦ matched_error _ _ (Reader OutOfMemory) _ c.from_residual-in_err-frame.ensures.1 (refused-as refl refused)
    ]

pub returns : goal.returns
returns c =
    let items = map (λ channel. channel.items) c.args.channels.now in
    let bytes = c.in_ok-bytes.bytes.items in
    let found : frame_at c.args.sample_size c.as_slice.result.now ≡ Ok ((c.args.header.now, items), length bytes) =
    ap (frame_at c.args.sample_size) (c.as_slice.ensures.value ∙ sym (append-nil bytes)) ∙ c.in_ok-bytes.ensures [] in
    elim c.in_ok-frame.ensures.found [
      | inl same ↦ let both = first-same (same ∙ found) in (ap (λ p. p.0) both, ap (λ p. p.1) both)
      | inr refused ↦ absurd (not-refused refused)
    ]
