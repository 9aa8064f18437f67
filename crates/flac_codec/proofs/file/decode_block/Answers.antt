use Rattle.std.proofs.Common.{◌∙◌, Err, ap, inl, inr, refl, sym}
use Rattle.flac_codec.proofs.FoundLemmas.{after-err, after-ok, not-cut, not-refused, refused-as, stopped}
use Rattle.flac_codec.proofs.ResultLemmas.{seen_is}
use Rattle.flac_codec.proofs.file.decode_block.Goals as goal

pub returns-in_err-frame-clause-meant : goal.returns-in_err-frame-clause-meant
returns-in_err-frame-clause-meant c =
    let is = seen_is _ _ _ c.from_residual.ensures.1 in
    elim (rw c.get.ensures.value at c.in_err-frame.ensures.found) [
      | inl same ↦ inl (is ∙ after-err _ same)
      | inr refused ↦ inr (is ∙ ap Err (refused-as refl refused))
    ]

pub returns-in_err-frame-clause-further : goal.returns-in_err-frame-clause-further
returns-in_err-frame-clause-further c =
    let is = seen_is _ _ _ c.from_residual.ensures.1 in
    elim (rw c.get.ensures.value at c.in_err-frame.ensures.further) [
      | inl same ↦ inl (λ more. is ∙ after-err _ (same more))
      | inr cut ↦ inr (stopped is cut)
    ]

pub returns-in_err-check_header-clause-meant : goal.returns-in_err-check_header-clause-meant
returns-in_err-check_header-clause-meant c =
    let is = seen_is _ _ _ c.from_residual-in_err-check_header.ensures.1 in
    elim (rw c.get.ensures.value at c.in_ok-frame.ensures.found) [
      | inl same ↦ inl (after-ok _ same (is ∙ after-err _ c.in_err-check_header.ensures))
      | inr refused ↦ absurd (not-refused refused)
    ]

pub returns-in_err-check_header-clause-further : goal.returns-in_err-check_header-clause-further
returns-in_err-check_header-clause-further c =
    let is = seen_is _ _ _ c.from_residual-in_err-check_header.ensures.1 in
    elim (rw c.get.ensures.value at c.in_ok-frame.ensures.further) [
      | inl same ↦ inl (λ more. after-ok _ (same more) (is ∙ after-err _ c.in_err-check_header.ensures))
      | inr cut ↦ absurd (not-cut cut)
    ]

pub returns-clause-meant : goal.returns-clause-meant
returns-clause-meant c = elim (rw c.get.ensures.value at c.in_ok-frame.ensures.found) [
  | inl same ↦ inl (after-ok _ same (after-ok _ c.in_ok-check_header.ensures refl))
  | inr refused ↦ absurd (not-refused refused)
]

pub returns-clause-further : goal.returns-clause-further
returns-clause-further c = elim (rw c.get.ensures.value at c.in_ok-frame.ensures.further) [
  | inl same ↦ inl (λ more. after-ok _ (same more) (after-ok _ c.in_ok-check_header.ensures refl))
  | inr cut ↦ absurd (not-cut cut)
]
