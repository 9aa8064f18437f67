use Rattle.std.proofs.Common.{◌≡◌, ◌∙◌, ◌++◌, ◌+◌, ◌∷◌, [], ℕ, ℤ, List, Vec, Global, ap, arith, drop, get_or, length, subst, sym, take}
use Rattle.std.specs.Prelude.{map}
use Rattle.flac_codec.proofs.FileLemmas.{AreBlocks, blocks-more, channels-found, pieces-all, pieces-more}
use Rattle.flac_codec.proofs.filing.encode_blocks.Goals as goal

pub loop-start-preserved : goal.loop-start-preserved
loop-start-preserved c =
    let channels = c.args.channels.now in
    let start = c.loop-start.start in
    let size = c.block_of-size.result in
    let so_far = c.loop-start.invariant in
    let block = map (λ (channel : Vec ℤ Global). take size (drop start channel.items)) channels in
    let bytes : c.extend_from_slice.new.self.items ≡ c.loop-start.bytes.items ++ c.in_ok-block.block.items =
    c.in_ok-extend_from_slice.ensures.items ∙ ap (λ xs. c.loop-start.bytes.items ++ xs) c.as_slice.ensures.value in (
      so_far.0 ++ block ∷ [],
      subst (λ (xs : List ℕ). AreBlocks c.args.sample_size (length channels) xs (c.loop-start.number + 1) (so_far.0 ++ block ∷ []))
          (sym bytes) (blocks-more c.args.sample_size (length channels) c.loop-start.bytes.items c.in_ok-block.block.items
          c.loop-start.number so_far.0 block so_far.1 c.in_ok-block.ensures),
      λ k. pieces-more so_far.0 channels start size k (so_far.2 k),
      let some = c.block_of-size.ensures.some in let few = so_far.3 in omega (arith, some, few),
      let within = c.block_of-size.ensures.within in let less = c.loop-start-test.true in omega (arith, within, less),
    )

pub returns : goal.returns
returns c =
    let channels = c.args.channels.now in
    let so_far = c.loop-start.invariant in
    let count = c.sample_count-count.result in
    let all : c.loop-start.start ≡ count = let most = c.loop-start-test.false in let within = so_far.4 in omega (arith, most, within) in
    let items = map (λ (channel : Vec ℤ Global). channel.items) channels in
    let whole = rw (sym c.sample_count-count.ensures) at c.requires.whole in
    channels-found c.args.sample_size (length channels) c.loop-start.bytes.items c.loop-start.number so_far.0 items so_far.1
    (pieces-all so_far.0 channels count whole
    (λ k. so_far.2 k ∙ ap (λ m. take m (get_or items k [])) all))
