use Rattle.std.proofs.Common.{◌≡◌, ◌∙◌, ◌++◌, ap, subst, sym}
use Rattle.flac_codec.specs.Encoding.{EndsMetadata, IsStartOf}
use Rattle.flac_codec.proofs.EncodingLemmas.{start-found}
use Rattle.flac_codec.proofs.starting.encode_start.Goals as goal

pub returns : goal.returns
returns c =
    let first = c.in_ok-bytes.bytes.items in
    let rest = c.in_ok-rest.rest.items in
    let whole : c.extend_from_slice.new.self.items ≡ first ++ rest =
    c.in_ok-extend_from_slice.ensures.items ∙ ap (λ xs. first ++ xs) c.as_slice.ensures.value in
    subst (IsStartOf c.args.info.now) (sym whole)
    (start-found c.args.info.now c.is_empty.result first rest c.in_ok-bytes.ensures
    (subst (λ b. EndsMetadata b rest) (sym c.is_empty.ensures) c.in_ok-rest.ensures))
