use Rattle.std.proofs.Common.{◌≡◌, length}
use Rattle.bitstream_io.specs.Callers.{list_item, signed_decoder}
use Rattle.bitstream_io.specs.Loop.{ItemsRead}
use Rattle.flac_codec.proofs.numbers.read_samples.Given as goal

-- the samples so far were read
abbrev pub invariant-loop : goal.invariant-loop
invariant-loop g l =
    let K = g.R.BitRead.source in
    ItemsRead K (list_item (signed_decoder K.order 64 l.width)) l.counter l.initial.reader l.found.items l.reader
    × (length l.found.items ≡ l.counter)
