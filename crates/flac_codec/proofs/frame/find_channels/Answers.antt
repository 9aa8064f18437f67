use Rattle.std.proofs.Common.{◌∙◌, Err, ap, inl, inr, refl, sym}
use Rattle.bitstream_io.specs.Callers.{High, memory_source}
use Rattle.bitstream_io.proofs.CallerLemmas.{slice_ends}
use Rattle.flac_codec.proofs.FoundLemmas.{found-err, found-grown, grown-further, rest-within, stopped_by, stops-further}
use Rattle.flac_codec.proofs.ResultLemmas.{seen_is}
use Rattle.flac_codec.proofs.frame.find_channels.Goals as goal

pub returns-in_err-channels-clause-found : goal.returns-in_err-channels-clause-found
returns-in_err-channels-clause-found c =
    let is = seen_is _ _ _ c.from_residual.ensures.1 in
    elim (found-err (memory_source High) refl c.args.bytes.now c.over-reader.ensures.state _ slice_ends c.in_err-channels.ensures) [
      | inl same ↦ inl (is ∙ sym same)
      | inr refused ↦ inr (is ∙ ap Err refused)
    ]

pub overflow_sub-result : goal.overflow_sub-result
overflow_sub-result c =
    rest-within (memory_source High) refl c.args.bytes.now c.over-reader.ensures.state _ c.rest.result.now c.rest.ensures c.in_ok-channels.ensures

pub returns-clause-found : goal.returns-clause-found
returns-clause-found c =
    inl (sym (found-grown (memory_source High) refl c.args.bytes.now c.over-reader.ensures.state _ c.rest.result.now c.rest.ensures
    c.in_ok-channels.ensures))

pub returns-in_err-channels-clause-further : goal.returns-in_err-channels-clause-further
returns-in_err-channels-clause-further c =
    let is = seen_is _ _ _ c.from_residual.ensures.1 in
    elim (stops-further (memory_source High) refl c.args.bytes.now c.over-reader.ensures.state _ slice_ends c.in_err-channels.ensures) [
      | inl same ↦ inl (λ more. is ∙ same more)
      | inr cut ↦ inr (stopped_by is cut)
    ]

pub returns-clause-further : goal.returns-clause-further
returns-clause-further c =
    inl (grown-further (memory_source High) refl c.args.bytes.now c.over-reader.ensures.state _ c.rest.result.now c.rest.ensures
    c.in_ok-channels.ensures)
