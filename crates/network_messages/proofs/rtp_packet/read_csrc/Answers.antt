-- Made by `./format` from formats/rtp_packet.fields: edit that file and make this one anew.
use Rattle.bitstream_io.specs.Codec.{and_then}
use Rattle.bitstream_io.specs.ReadTable.{unsigned_decoder}
use Rattle.bitstream_io.specs.Array.{items_decoder}
use Rattle.std.proofs.Common.{◌≡◌, refl, arith}
use Rattle.bitstream_io.proofs.CallerLemmas.{item-read, items-begin, items-push, items-stop, items-refused, grown}
use Rattle.bitstream_io.proofs.ReadsLemmas.{map_err}
use Rattle.network_messages.proofs.rtp_packet.read_csrc.Goals as goal

pub loop-init : goal.loop-init
loop-init g c = items-begin _ c.new-found.ensures.items

pub returns-in_err-read : goal.returns-in_err-read
returns-in_err-read g c =
    grown (items-stop _ _ _ _ c.from_residual.result c.loop-test.true c.loop.invariant (item-read
    c.in_err-read.ensures.reads) c.from_residual.ensures.1)

pub returns-in_err-push : goal.returns-in_err-push
unfolding and_then unsigned_decoder items_decoder
returns-in_err-push g c =
    rw (map_err _ c.from_residual-in_err-push.result c.from_residual-in_err-push.ensures.1)
    (items-refused (unsigned_decoder g.R.BitRead.source.order 32 32) _ c.args.count refl c.loop-test.true
    c.loop.invariant c.in_ok-read.ensures.reads)

pub loop-preserved : goal.loop-preserved
loop-preserved g c = items-push _ _ c.in_ok-push.ensures.items c.loop.invariant (item-read c.in_ok-read.ensures.reads)

pub returns : goal.returns
returns g c =
    let all : c.loop.counter ≡ c.args.count = omega (arith, c.loop-test.false, c.loop.auto.counter-end) in
    grown (rw (← all) c.loop.invariant)
