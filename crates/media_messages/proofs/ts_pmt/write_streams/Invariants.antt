-- Made by `./format` from formats/ts_pmt.fields: edit that file and make this one anew.
use Rattle.media_messages.specs.TsStream.{ts_stream_writes}
use Rattle.bitstream_io.specs.Loop.{ItemsWritten}
use Rattle.media_messages.proofs.ts_pmt.write_streams.Given as goal

-- the items so far were written
abbrev pub invariant-loop-item : goal.invariant-loop-item
invariant-loop-item g l =
    let K = g.W.BitWrite.sink in
    ItemsWritten K (ts_stream_writes K.order) l.items l.item-index l.initial.writer l.writer
