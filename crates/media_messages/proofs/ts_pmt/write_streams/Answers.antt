-- Made by `./format` from formats/ts_pmt.fields: edit that file and make this one anew.
use Rattle.media_messages.specs.TsStream.{ts_stream_writes}
use Rattle.bitstream_io.proofs.CallerLemmas.{written-begin, written-more, written-stop}
use Rattle.media_messages.proofs.ts_pmt.write_streams.Goals as goal

pub loop-item-init : goal.loop-item-init
loop-item-init g c = let K = g.W.BitWrite.sink in
    written-begin K (ts_stream_writes K.order) c.args.items.now _

pub returns-in_err-write : goal.returns-in_err-write
returns-in_err-write g c =
    let K = g.W.BitWrite.sink in
    written-stop K (ts_stream_writes K.order) c.args.items.now _ _ _ _ _ _ _ _
    c.loop-item-test.true c.item-item.is c.loop-item.invariant c.in_err-write.ensures c.from_residual.ensures.1

pub loop-item-preserved : goal.loop-item-preserved
loop-item-preserved g c =
    let K = g.W.BitWrite.sink in
    written-more K (ts_stream_writes K.order) c.args.items.now _ _ _ _ _ _
    c.loop-item-test.true c.item-item.is c.loop-item.invariant c.in_ok-write.ensures
