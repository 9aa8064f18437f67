use Rattle.std.proofs.Common.{Ok, take}
use Rattle.std.specs.Prelude.{map}
use Rattle.bitstream_io.specs.Callers.{parts_decoder}
use Rattle.flac_codec.specs.Subframe.{subframe_decoder, WritesValue}
use Rattle.flac_codec.proofs.channel_writing.write_independent.Given as goal

-- the channels so far were written
abbrev pub invariant-loop-channel : goal.invariant-loop-channel
invariant-loop-channel g l =
    let K = g.W.BitWrite.sink in
    WritesValue K (parts_decoder (subframe_decoder K.order l.width l.block_size) l.channel-index)
    (map (λ channel. channel.items) (take l.channel-index l.samples)) l.initial.writer (Ok tt) l.writer
