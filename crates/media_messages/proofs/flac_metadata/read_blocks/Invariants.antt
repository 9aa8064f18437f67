-- Made by `./format` from formats/flac_metadata.fields: edit that file and make this one anew.
use Rattle.media_messages.specs.FlacMetadata.{becomes_flac_metadata, blocks_last, flac_block_here}
use Rattle.bitstream_format.proofs.UpToLastLemmas.{UpToLastSoFar}
use Rattle.media_messages.proofs.flac_metadata.read_blocks.Given as goal

-- the parts so far were read, and none of them is the last one
abbrev pub invariant-loop : goal.invariant-loop
invariant-loop g l =
    let K = g.R.BitRead.source in
    UpToLastSoFar K becomes_flac_metadata (flac_block_here K.order) blocks_last l.counter l.initial.reader l.found.items
    l.reader
