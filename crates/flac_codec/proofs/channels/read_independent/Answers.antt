use Rattle.std.proofs.Common.{◌≡◌, ◌∙◌, ◌∷◌, [], ap, arith, refl}
use Rattle.std.specs.Prelude.{map}
use Rattle.std.proofs.lemmas.List.{map-append}
use Rattle.bitstream_io.specs.Callers.{OutOfMemory}
use Rattle.bitstream_io.proofs.CallerLemmas.{parts-begin, parts-push, parts-refused, parts-stop}
use Rattle.flac_codec.specs.Subframe.{subframe_decoder}
use Rattle.flac_codec.specs.declared.error.FlacError.TheVariants.{Reader}
use Rattle.flac_codec.proofs.ChannelLemmas.{subframe-on_failed}
use Rattle.flac_codec.proofs.ResultLemmas.{grown_as, seen_is}
use Rattle.flac_codec.proofs.channels.read_independent.Goals as goal

pub loop-init : goal.loop-init
loop-init g c = parts-begin _ (ap (map (λ channel. channel.items)) c.new-found.ensures.items)

pub returns-in_err-channel : goal.returns-in_err-channel
returns-in_err-channel g c =
    let K = g.R.BitRead.source in
    let e = subframe_decoder K.order c.args.width c.args.block_size in
    grown_as (seen_is _ c.in_err-channel.field-0.0 c.from_residual.result c.from_residual.ensures.1)
    (parts-stop e c.loop.counter c.args.count c.loop-test.true c.loop.invariant c.in_err-channel.ensures)

pub returns-in_err-push : goal.returns-in_err-push
returns-in_err-push g c =
    let K = g.R.BitRead.source in
    let e = subframe_decoder K.order c.args.width c.args.block_size in
    grown_as (seen_is _ (Reader OutOfMemory) c.from_residual-in_err-push.result c.from_residual-in_err-push.ensures.1)
    (parts-refused e c.loop.counter c.args.count {y = Reader OutOfMemory}
    (subframe-on_failed K.order c.args.width c.args.block_size) c.loop-test.true c.loop.invariant c.in_ok-channel.ensures refl)

pub loop-preserved : goal.loop-preserved
loop-preserved g c =
    let e = subframe_decoder g.R.BitRead.source.order c.args.width c.args.block_size in
    parts-push e c.loop.counter
    (ap (map (λ channel. channel.items)) c.in_ok-push.ensures.items
    ∙ map-append (λ channel. channel.items) c.loop.found.items (c.in_ok-channel.channel ∷ []))
    c.loop.invariant c.in_ok-channel.ensures

pub returns : goal.returns
returns g c =
    let all : c.loop.counter ≡ c.args.count = omega (arith, c.loop-test.false, c.loop.auto.counter-end) in
    rw (← all) c.loop.invariant
