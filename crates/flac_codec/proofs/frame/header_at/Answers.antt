use Rattle.std.proofs.Common.{◌∙◌, Err, ap, arith, inl, inr, refl, sym}
use Rattle.flac_codec.proofs.FoundLemmas.{after-err, after-ok, crc8-further, crc8-stops, crc8-within, not-cut, stopped}
use Rattle.flac_codec.proofs.ResultLemmas.{seen_is}
use Rattle.flac_codec.proofs.frame.header_at.Goals as goal

pub returns-in_err-start-clause-found : goal.returns-in_err-start-clause-found
returns-in_err-start-clause-found c = seen_is _ _ _ c.from_residual.ensures.1 ∙ after-err _ c.in_err-start.ensures.found

pub returns-in_err-check_crc8-clause-found : goal.returns-in_err-check_crc8-clause-found
returns-in_err-check_crc8-clause-found c =
    after-ok _ c.in_ok-start.ensures.found
    (seen_is _ _ _ c.from_residual-in_err-check_crc8.ensures.1 ∙ after-err _ c.in_err-check_crc8.ensures)

pub returns-clause-found : goal.returns-clause-found
returns-clause-found c = after-ok _ c.in_ok-start.ensures.found (after-ok _ c.in_ok-check_crc8.ensures refl)

pub returns-clause-within : goal.returns-clause-within
returns-clause-within c =
    let less = crc8-within c.args.bytes.now c.in_ok-start.start.size c.in_ok-check_crc8.ensures in omega (arith, less)

pub returns-in_err-start-clause-further : goal.returns-in_err-start-clause-further
returns-in_err-start-clause-further c =
    let is = seen_is _ _ _ c.from_residual.ensures.1 in
    elim c.in_err-start.ensures.further [
      | inl same ↦ inl (λ more. is ∙ after-err _ (same more))
      | inr cut ↦ inr (stopped is cut)
    ]

pub returns-in_err-check_crc8-clause-further : goal.returns-in_err-check_crc8-clause-further
returns-in_err-check_crc8-clause-further c =
    let is = seen_is _ _ _ c.from_residual-in_err-check_crc8.ensures.1 in
    elim c.in_ok-start.ensures.further [
      | inl same ↦ elim (crc8-stops c.args.bytes.now c.in_ok-start.start.size c.in_err-check_crc8.ensures) [
        | inl wrong ↦ inl (λ more. after-ok _ (same more) (is ∙ after-err _ (wrong more)))
        | inr cut ↦ inr (inl (is ∙ ap Err cut))
      ]
      | inr cut ↦ absurd (not-cut cut)
    ]

pub returns-clause-further : goal.returns-clause-further
returns-clause-further c =
    let less = crc8-within c.args.bytes.now c.in_ok-start.start.size c.in_ok-check_crc8.ensures in
    elim c.in_ok-start.ensures.further [
      | inl same ↦ inl (λ more. after-ok _ (same more)
          (after-ok _ (c.in_ok-check_crc8.ensures ∙ sym (crc8-further c.args.bytes.now more _ less)) refl))
      | inr cut ↦ absurd (not-cut cut)
    ]
