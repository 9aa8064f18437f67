use Rattle.std.proofs.Common.{◌≡◌, ◌∙◌, ◌++◌, ap, subst, sym}
use Rattle.flac_codec.specs.Written.{marker, IsMetadata}
use Rattle.flac_codec.proofs.FileLemmas.{metadata-found}
use Rattle.flac_codec.proofs.starting.encode_info.Goals as goal

pub returns : goal.returns
returns c =
    let packed = c.as_slice.result.now in
    let last = c.args.last in
    let head = c.to_bytes.result in
    let first : c.extend_from_slice.new.self.items ≡ marker =
    c.in_ok-extend_from_slice.ensures.items ∙ ap (λ xs. xs ++ marker) c.new-bytes.ensures.items in
    let second : c.extend_from_slice-2.new.self.items ≡ marker ++ head =
    c.in_ok-extend_from_slice-2.ensures.items ∙ ap (λ xs. xs ++ head) first in
    let whole : c.extend_from_slice-3.new.self.items ≡ marker ++ (head ++ packed) =
    c.in_ok-extend_from_slice-3.ensures.items ∙ ap (λ xs. xs ++ packed) second in
    subst (IsMetadata c.args.info.now last) (sym whole)
    (metadata-found c.args.info.now packed c.requires (rw (sym c.as_slice.ensures) at c.in_ok-packed.ensures.packed) last head
    c.to_bytes.ensures.size c.to_bytes.ensures.back)
