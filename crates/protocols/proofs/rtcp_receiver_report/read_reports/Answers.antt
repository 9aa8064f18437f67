-- Made by `./format` from formats/rtcp_receiver_report.fields: edit that file and make this one anew.
use Rattle.protocols.specs.ReportBlock.{report_block_decoder}
use Rattle.bitstream_io.specs.Codec.{and_then}
use Rattle.bitstream_io.specs.ReadTable.{unsigned_decoder, signed_decoder}
use Rattle.bitstream_io.specs.Array.{items_decoder}
use Rattle.std.proofs.Common.{◌≡◌, refl, arith}
use Rattle.bitstream_io.proofs.CallerLemmas.{item-read, items-begin, items-push, items-stop, items-refused, grown}
use Rattle.bitstream_io.proofs.ReadsLemmas.{map_err}
use Rattle.protocols.proofs.rtcp_receiver_report.read_reports.Goals as goal

pub loop-init : goal.loop-init
loop-init g c = items-begin _ c.new-found.ensures.items

pub returns-in_err-read : goal.returns-in_err-read
returns-in_err-read g c =
    grown (items-stop _ _ _ _ c.from_residual.result c.loop-test.true c.loop.invariant (item-read c.in_err-read.ensures)
    c.from_residual.ensures.1)

pub returns-in_err-push : goal.returns-in_err-push
unfolding and_then items_decoder unsigned_decoder signed_decoder
returns-in_err-push g c =
    rw (map_err _ c.from_residual-in_err-push.result c.from_residual-in_err-push.ensures.1)
    (items-refused (report_block_decoder g.R.BitRead.source.order) _ c.args.count refl c.loop-test.true c.loop.invariant
    c.in_ok-read.ensures)

pub loop-preserved : goal.loop-preserved
loop-preserved g c = items-push _ _ c.in_ok-push.ensures.items c.loop.invariant (item-read c.in_ok-read.ensures)

pub returns : goal.returns
returns g c =
    let all : c.loop.counter ≡ c.args.count = omega (arith, c.loop-test.false, c.loop.auto.counter-end) in
    grown (rw (← all) c.loop.invariant)
