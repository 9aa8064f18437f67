use Rattle.std.proofs.Common.{◌∙◌, false, inl, inr, refl, sym}
use Rattle.bitstream_io.specs.Callers.{High, memory_source}
use Rattle.bitstream_io.proofs.CallerLemmas.{if_grown, slice_ends}
use Rattle.flac_codec.proofs.FoundLemmas.{found-grown, found-own_err, grown-further, rest-within, stopped_by, stops-further}
use Rattle.flac_codec.proofs.ResultLemmas.{seen_is}
use Rattle.flac_codec.proofs.frame.find_header.Goals as goal

pub returns-in_err-header-clause-found : goal.returns-in_err-header-clause-found
returns-in_err-header-clause-found c =
    seen_is _ _ _ c.from_residual.ensures.1
    ∙ sym (found-own_err (memory_source High) refl c.args.bytes.now c.over-reader.ensures.state _ slice_ends c.in_err-header.ensures)

pub overflow_sub-result : goal.overflow_sub-result
overflow_sub-result c =
    rest-within (memory_source High) refl c.args.bytes.now c.over-reader.ensures.state _ c.rest.result.now c.rest.ensures
    (if_grown false c.in_ok-header.ensures)

pub returns-clause-found : goal.returns-clause-found
returns-clause-found c =
    sym (found-grown (memory_source High) refl c.args.bytes.now c.over-reader.ensures.state _ c.rest.result.now c.rest.ensures
    (if_grown false c.in_ok-header.ensures))

pub returns-in_err-header-clause-further : goal.returns-in_err-header-clause-further
returns-in_err-header-clause-further c =
    let is = seen_is _ _ _ c.from_residual.ensures.1 in
    elim (stops-further (memory_source High) refl c.args.bytes.now c.over-reader.ensures.state _ slice_ends
    (if_grown false c.in_err-header.ensures)) [
      | inl same ↦ inl (λ more. is ∙ same more)
      | inr cut ↦ inr (stopped_by is cut)
    ]

pub returns-clause-further : goal.returns-clause-further
returns-clause-further c =
    inl (grown-further (memory_source High) refl c.args.bytes.now c.over-reader.ensures.state _ c.rest.result.now c.rest.ensures
    (if_grown false c.in_ok-header.ensures))
