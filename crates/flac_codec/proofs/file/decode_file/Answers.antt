use Rattle.std.proofs.Common.{◌∙◌, inl, inr}
use Rattle.flac_codec.proofs.FoundLemmas.{after-err, after-ok, rest-all}
use Rattle.flac_codec.proofs.ResultLemmas.{seen_is}
use Rattle.flac_codec.proofs.file.decode_file.Goals as goal

pub returns-in_err-frames : goal.returns-in_err-frames
returns-in_err-frames c =
    let frames = rw (rest-all c.args.bytes.now 42) at c.in_err-frames.ensures in
    inl (seen_is _ _ _ c.from_residual-in_err-frames.ensures.1 ∙ after-ok _ c.in_ok-start.ensures.found (after-err _ frames))

pub returns : goal.returns
returns c =
    let frames = rw (rest-all c.args.bytes.now 42) at c.in_ok-frames.ensures in
    elim c.decode_frames.ensures [
      | inl same ↦ inl (after-ok _ c.in_ok-start.ensures.found (after-ok _ frames same))
      | inr refused ↦ inr refused
    ]
