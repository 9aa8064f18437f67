use Rattle.std.proofs.Common.{◌∙◌, ◌++◌, ◌+◌, Err, ap, inl, inr, refl, sym}
use Rattle.bitstream_io.specs.Callers.{High}
use Rattle.flac_codec.specs.Channels.{channels_decoder}
use Rattle.flac_codec.specs.Frame.{width_of}
use Rattle.flac_codec.proofs.FoundLemmas.{after-err, after-ok, body-further, crc16-further, crc16-stops, crc16-within, frame-parts, frame-parts_err, not-cut, not-refused, refused-as, rest-all, stopped}
use Rattle.flac_codec.proofs.ResultLemmas.{seen_is}
use Rattle.flac_codec.proofs.frame.decode_frame.Goals as goal

pub returns-in_err-start-clause-found : goal.returns-in_err-start-clause-found
returns-in_err-start-clause-found c =
    inl (seen_is _ _ _ c.from_residual.ensures.1 ∙ after-err _ (after-err _ c.in_err-start.ensures.found))

pub returns-in_err-body-clause-found : goal.returns-in_err-body-clause-found
returns-in_err-body-clause-found c =
    let is = seen_is _ _ _ c.from_residual-in_err-body.ensures.1 in
    elim (rw (c.width_of-width.ensures, rest-all c.args.bytes.now c.in_ok-start.start.size) at c.in_err-body.ensures.found) [
      | inl same ↦ inl (is ∙ after-err _ (frame-parts_err c.args.sample_size c.args.bytes.now c.in_ok-start.ensures.found same))
      | inr refused ↦ inr (is ∙ ap Err (refused-as refl refused))
    ]

pub returns-in_err-check_crc16-clause-found : goal.returns-in_err-check_crc16-clause-found
returns-in_err-check_crc16-clause-found c =
    let is = seen_is _ _ _ c.from_residual-in_err-check_crc16.ensures.1 in
    elim (rw (c.width_of-width.ensures, rest-all c.args.bytes.now c.in_ok-start.start.size) at c.in_ok-body.ensures.found) [
      | inl same ↦ inl (after-ok _ (frame-parts c.args.sample_size c.args.bytes.now c.in_ok-start.ensures.found same)
          (is ∙ after-err _ c.in_err-check_crc16.ensures))
      | inr refused ↦ absurd (not-refused refused)
    ]

pub returns-clause-found : goal.returns-clause-found
returns-clause-found c = elim (rw (c.width_of-width.ensures, rest-all c.args.bytes.now c.in_ok-start.start.size) at c.in_ok-body.ensures.found) [
  | inl same ↦ inl (after-ok _ (frame-parts c.args.sample_size c.args.bytes.now c.in_ok-start.ensures.found same)
      (after-ok _ c.in_ok-check_crc16.ensures refl))
  | inr refused ↦ absurd (not-refused refused)
]

pub returns-in_err-start-clause-further : goal.returns-in_err-start-clause-further
returns-in_err-start-clause-further c =
    let is = seen_is _ _ _ c.from_residual.ensures.1 in
    elim c.in_err-start.ensures.further [
      | inl same ↦ inl (λ more. is ∙ after-err _ (after-err _ (same more)))
      | inr cut ↦ inr (stopped is cut)
    ]

pub returns-in_err-body-clause-further : goal.returns-in_err-body-clause-further
returns-in_err-body-clause-further c =
    let is = seen_is _ _ _ c.from_residual-in_err-body.ensures.1 in
    let bytes = c.args.bytes.now in
    let size = c.in_ok-start.start.size in
    let header = c.in_ok-start.start.header in
    let e = channels_decoder High header.channels (width_of c.args.sample_size header) header.block_size in
    elim (rw (c.width_of-width.ensures, rest-all bytes size) at c.in_err-body.ensures.further) [
      | inl same ↦ elim c.in_ok-start.ensures.further [
        | inl first ↦ inl (λ more. is ∙ after-err _ (frame-parts_err c.args.sample_size (bytes ++ more) (first more)
            (body-further e bytes more size c.in_ok-start.ensures.within (same more))))
        | inr cut ↦ absurd (not-cut cut)
      ]
      | inr cut ↦ inr (stopped is cut)
    ]

pub returns-in_err-check_crc16-clause-further : goal.returns-in_err-check_crc16-clause-further
returns-in_err-check_crc16-clause-further c =
    let is = seen_is _ _ _ c.from_residual-in_err-check_crc16.ensures.1 in
    let bytes = c.args.bytes.now in
    let size = c.in_ok-start.start.size in
    let header = c.in_ok-start.start.header in
    let e = channels_decoder High header.channels (width_of c.args.sample_size header) header.block_size in
    elim (rw (c.width_of-width.ensures, rest-all bytes size) at c.in_ok-body.ensures.further) [
      | inl same ↦ elim c.in_ok-start.ensures.further [
        | inl first ↦ elim (crc16-stops bytes (size + c.in_ok-body.body.size) c.in_err-check_crc16.ensures) [
          | inl wrong ↦ inl (λ more. after-ok _ (frame-parts c.args.sample_size (bytes ++ more) (first more)
              (body-further e bytes more size c.in_ok-start.ensures.within (same more)))
              (is ∙ after-err _ (wrong more)))
          | inr cut ↦ inr (inl (is ∙ ap Err cut))
        ]
        | inr cut ↦ absurd (not-cut cut)
      ]
      | inr cut ↦ absurd (not-cut cut)
    ]

pub returns-clause-further : goal.returns-clause-further
returns-clause-further c =
    let bytes = c.args.bytes.now in
    let size = c.in_ok-start.start.size in
    let header = c.in_ok-start.start.header in
    let e = channels_decoder High header.channels (width_of c.args.sample_size header) header.block_size in
    let less = crc16-within bytes (size + c.in_ok-body.body.size) c.in_ok-check_crc16.ensures in
    elim (rw (c.width_of-width.ensures, rest-all bytes size) at c.in_ok-body.ensures.further) [
      | inl same ↦ elim c.in_ok-start.ensures.further [
        | inl first ↦ inl (λ more. after-ok _ (frame-parts c.args.sample_size (bytes ++ more) (first more)
            (body-further e bytes more size c.in_ok-start.ensures.within (same more)))
            (after-ok _ (c.in_ok-check_crc16.ensures ∙ sym (crc16-further bytes more _ less)) refl))
        | inr cut ↦ absurd (not-cut cut)
      ]
      | inr cut ↦ absurd (not-cut cut)
    ]
