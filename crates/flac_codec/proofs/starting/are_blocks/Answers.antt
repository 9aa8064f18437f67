use Rattle.std.proofs.Common.{subst}
use Rattle.std.proofs.lemmas.List.{take_all}
use Rattle.std.proofs.lemmas.List.Elements.{All-more}
use Rattle.flac_codec.specs.Encoding.{IsBlockOfMetadata}
use Rattle.flac_codec.proofs.WrittenLemmas.{item-holds}
use Rattle.flac_codec.proofs.starting.are_blocks.Goals as goal

pub returns-then-not-is_block : goal.returns-then-not-is_block
returns-then-not-is_block c = (
  λ yes. absurd (cc),
  λ all.
      let here = c.is_block.ensures.1 (item-holds IsBlockOfMetadata c.args.blocks.now c.loop-block.block-index c.block-item.result
      c.loop-block-test.true c.block-item.is all) in
      cc,
)

pub loop-block-preserved : goal.loop-block-preserved
loop-block-preserved c =
    All-more IsBlockOfMetadata c.args.blocks.now c.loop-block.block-index c.block-item.result c.loop-block-test.true
    c.loop-block.invariant (subst IsBlockOfMetadata c.block-item.is (c.is_block.ensures.0 c.if-not-is_block.false))

pub returns : goal.returns
returns c = let all = rw (take_all _ c.args.blocks.now c.loop-block-test.false) at c.loop-block.invariant in (λ yes. all, λ given. cc)
