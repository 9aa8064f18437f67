use Rattle.std.proofs.Common.{◌≡◌, ◌+◌, Ok, Vec, Global, ℤ, arith, length, subst, sym}
use Rattle.std.specs.List.{All}
use Rattle.std.proofs.lemmas.List.{take_all}
use Rattle.bitstream_io.specs.Callers.{parts_decoder, FitsSignedBits}
use Rattle.flac_codec.specs.Subframe.{subframe_decoder, WritesValue}
use Rattle.flac_codec.proofs.WrittenLemmas.{encoded_first, item-holds, map-take, parts-none, parts-more, part_stopped, stopped, value_calls}
use Rattle.flac_codec.proofs.channel_writing.write_independent.Goals as goal

pub loop-channel-init : goal.loop-channel-init
loop-channel-init g c =
    parts-none (subframe_decoder g.W.BitWrite.sink.order c.args.width c.args.block_size) g.W.BitWrite.sink _

pub write_subframe-requires-clause-fit : goal.write_subframe-requires-clause-fit
write_subframe-requires-clause-fit g c =
    rw c.as_slice.ensures.value
    (item-holds (λ (v : Vec ℤ Global). All (FitsSignedBits c.args.width) v.items) c.args.samples.now c.loop-channel.channel-index
    c.channel-item.result c.loop-channel-test.true c.channel-item.is c.requires.fit)

pub returns-in_err-write_subframe : goal.returns-in_err-write_subframe
returns-in_err-write_subframe g c =
    part_stopped _ _ _ _ c.from_residual.ensures.1 (stopped _ (value_calls c.loop-channel.invariant) c.in_err-write_subframe.ensures)

pub loop-channel-preserved : goal.loop-channel-preserved
loop-channel-preserved g c =
    let K = g.W.BitWrite.sink in
    let e = subframe_decoder K.order c.args.width c.args.block_size in
    let i = c.loop-channel.channel-index in
    let items = λ (v : Vec ℤ Global). v.items in
    let size : length c.channel-item.result.items ≡ c.args.block_size =
    item-holds (λ (v : Vec ℤ Global). length v.items ≡ c.args.block_size) c.args.samples.now i c.channel-item.result
    c.loop-channel-test.true c.channel-item.is c.requires.whole in
    let written = rw (c.as_slice.ensures.value, size) at c.in_ok-write_subframe.ensures in
    subst (λ xs. WritesValue K (parts_decoder e (i + 1)) xs c.args.writer.now (Ok tt) c.write_subframe.new.writer)
    (sym (map-take items c.args.samples.now i c.channel-item.result c.loop-channel-test.true c.channel-item.is))
    (parts-more e K i c.loop-channel.invariant (encoded_first written))

pub returns : goal.returns
returns g c =
    let all : c.loop-channel.channel-index ≡ length c.args.samples.now =
    omega (arith, c.loop-channel-test.false, c.loop-channel.auto.channel-index-end) in
    let whole = rw (take_all _ c.args.samples.now c.loop-channel-test.false) at c.loop-channel.invariant in
    rw all at whole
