use Rattle.std.specs.Prelude.{map}
use Rattle.bitstream_io.specs.Callers.{PartsRead}
use Rattle.flac_codec.specs.Errors.{becomes_flac}
use Rattle.flac_codec.specs.Subframe.{subframe_decoder}
use Rattle.flac_codec.proofs.channels.read_independent.Given as goal

-- the channels so far were read
abbrev pub invariant-loop : goal.invariant-loop
invariant-loop g l =
    let K = g.R.BitRead.source in
    PartsRead K becomes_flac (subframe_decoder K.order l.width l.block_size) l.counter l.initial.reader
    (map (λ channel. channel.items) l.found.items) l.reader
