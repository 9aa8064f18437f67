use Rattle.std.proofs.Common.{◌≡◌, ◌∙◌, ℤ, Ok, Vec, Global, ap, inl, inr, refl, sym}
use Rattle.std.specs.Prelude.{map}
use Rattle.bitstream_io.specs.Callers.{OutOfMemory}
use Rattle.flac_codec.specs.File.{file_at}
use Rattle.flac_codec.specs.declared.error.FlacError.TheVariants.{Reader}
use Rattle.flac_codec.proofs.FileLemmas.{same-value}
use Rattle.flac_codec.proofs.FoundLemmas.{not-refused, refused-as}
use Rattle.flac_codec.proofs.LosslessLemmas.{matched_error}
use Rattle.flac_codec.proofs.filing.file_round_trip.Goals as goal

pub returns-in_err-bytes : goal.returns-in_err-bytes
returns-in_err-bytes c =
    matched_error _ _ (Reader OutOfMemory) _ c.from_residual.ensures.1 (ap Reader c.in_err-bytes.ensures)

pub returns-in_err-file : goal.returns-in_err-file
returns-in_err-file c =
    let channels = map (λ (channel : Vec ℤ Global). channel.items) c.args.channels.now in
    let found : file_at c.as_slice.result.now ≡ Ok (c.args.header.now, channels) =
    ap file_at c.as_slice.ensures.value ∙ c.in_ok-bytes.ensures in
    elim c.in_err-file.ensures [
      | inl same ↦ absurd (not-refused (sym (same ∙ found)))
      | inr refused ↦ matched_error _ _ (Reader OutOfMemory) _ c.from_residual-in_err-file.ensures.1 (refused-as refl refused)
    ]

pub returns : goal.returns
returns c =
    let channels = map (λ (channel : Vec ℤ Global). channel.items) c.args.channels.now in
    let found : file_at c.as_slice.result.now ≡ Ok (c.args.header.now, channels) =
    ap file_at c.as_slice.ensures.value ∙ c.in_ok-bytes.ensures in
    elim c.in_ok-file.ensures [
      | inl same ↦ let both = same-value (same ∙ found) in (ap (λ p. p.0) both, ap (λ p. p.1) both)
      | inr refused ↦ absurd (not-refused refused)
    ]
