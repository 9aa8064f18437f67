-- Made by `./format` from formats/client_hello.fields: edit that file and make this one anew.
use Rattle.bitstream_callers.specs.ClientHello.{compression_read}
use Rattle.bitstream_io.specs.Codec.{and_then}
use Rattle.bitstream_io.specs.ReadTable.{unsigned_decoder}
use Rattle.bitstream_io.specs.Grows.{parts_decoder}
use Rattle.std.proofs.Common.{◌≡◌, false, refl, arith}
use Rattle.bitstream_io.proofs.CallerLemmas.{if_grown, parts-begin, parts-push, parts-stop, parts-refused}
use Rattle.bitstream_io.proofs.EachLemmas.{own_map_err}
use Rattle.bitstream_callers.proofs.client_hello.read_compressions.Goals as goal

pub loop-init : goal.loop-init
loop-init g c = parts-begin _ c.new-found.ensures.items

pub returns-in_err-read : goal.returns-in_err-read
returns-in_err-read g c =
    rw (own_map_err _ c.from_residual.result c.from_residual.ensures.1) (parts-stop (compression_read
    g.R.BitRead.source.order) _ c.args.count c.loop-test.true c.loop.invariant (if_grown false
    c.in_err-read.ensures))

pub returns-in_err-push : goal.returns-in_err-push
unfolding and_then unsigned_decoder parts_decoder
returns-in_err-push g c =
    rw (own_map_err _ c.from_residual-in_err-push.result c.from_residual-in_err-push.ensures.1)
    (parts-refused (compression_read g.R.BitRead.source.order) _ c.args.count refl c.loop-test.true c.loop.invariant
    (if_grown false c.in_ok-read.ensures) refl)

pub loop-preserved : goal.loop-preserved
loop-preserved g c = parts-push (compression_read g.R.BitRead.source.order) _ c.in_ok-push.ensures.items
    c.loop.invariant (if_grown false c.in_ok-read.ensures)

pub returns : goal.returns
returns g c =
    let all : c.loop.counter ≡ c.args.count = omega (arith, c.loop-test.false, c.loop.auto.counter-end) in
    rw (← all) c.loop.invariant
