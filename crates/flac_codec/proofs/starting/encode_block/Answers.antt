use Rattle.std.proofs.Common.{◌≡◌, ◌∙◌, ◌++◌, arith, ap, subst, sym, false}
use Rattle.flac_codec.specs.Encoding.{EndsMetadata}
use Rattle.flac_codec.proofs.EncodingLemmas.{block-ends}
use Rattle.flac_codec.proofs.starting.encode_block.Goals as goal

pub returns : goal.returns
returns c =
    let head = c.to_bytes.result in
    let body = c.args.block.now.bytes.items in
    let rest = c.args.rest.now in
    let first : c.extend_from_slice.new.self.items ≡ head =
    c.in_ok-extend_from_slice.ensures.items ∙ ap (λ xs. xs ++ head) c.new-bytes.ensures.items in
    let second : c.extend_from_slice-2.new.self.items ≡ head ++ body =
    c.in_ok-extend_from_slice-2.ensures.items ∙ ap (λ xs. xs ++ c.as_slice.result.now) first
    ∙ ap (λ xs. head ++ xs) c.as_slice.ensures.value in
    let whole : c.extend_from_slice-3.new.self.items ≡ (head ++ body) ++ rest =
    c.in_ok-extend_from_slice-3.ensures.items ∙ ap (λ xs. xs ++ rest) second in
    subst (EndsMetadata false) (sym whole)
    (block-ends head body rest _ c.to_bytes.ensures.back c.to_bytes.ensures.size (omega (arith, c.len.ensures)) c.requires.rest)
