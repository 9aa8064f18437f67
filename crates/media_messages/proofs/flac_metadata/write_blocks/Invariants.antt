-- Made by `./format` from formats/flac_metadata.fields: edit that file and make this one anew.
use Rattle.media_messages.specs.FlacBlock.{flac_block_writes}
use Rattle.bitstream_io.specs.Loop.{ItemsWritten}
use Rattle.media_messages.proofs.flac_metadata.write_blocks.Given as goal

-- the items so far were written
abbrev pub invariant-loop-item : goal.invariant-loop-item
invariant-loop-item g l =
    let K = g.W.BitWrite.sink in
    ItemsWritten K (flac_block_writes K.order) l.items l.item-index l.initial.writer l.writer
