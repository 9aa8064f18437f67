use Rattle.std.proofs.Common.{subst, Vec, Global, ℤ}
use Rattle.std.proofs.lemmas.List.{take_all}
use Rattle.std.proofs.lemmas.List.Elements.{All-more}
use Rattle.flac_codec.specs.Encodable.{IsChannel}
use Rattle.flac_codec.proofs.WrittenLemmas.{item-holds}
use Rattle.flac_codec.proofs.fits.all_fit.Goals as goal

pub returns-then-not-is_channel : goal.returns-then-not-is_channel
returns-then-not-is_channel c =
    let P = λ (x : Vec ℤ Global). IsChannel c.args.width c.args.size x.items in
    let is = rw c.as_slice.ensures.value at c.is_channel.ensures in (
      λ yes. absurd (cc),
      λ all.
          let here = is.1 (item-holds P c.args.channels.now c.loop-channel.channel-index c.channel-item.result
          c.loop-channel-test.true c.channel-item.is all) in
          cc,
    )

pub loop-channel-preserved : goal.loop-channel-preserved
loop-channel-preserved c =
    let P = λ (x : Vec ℤ Global). IsChannel c.args.width c.args.size x.items in
    let is = rw c.as_slice.ensures.value at c.is_channel.ensures in
    All-more P c.args.channels.now c.loop-channel.channel-index c.channel-item.result c.loop-channel-test.true
    c.loop-channel.invariant (subst P c.channel-item.is (is.0 c.if-not-is_channel.false))

pub returns : goal.returns
returns c = let all = rw (take_all _ c.args.channels.now c.loop-channel-test.false) at c.loop-channel.invariant in (λ yes. all, λ given. cc)
