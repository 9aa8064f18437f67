use Rattle.bitstream_io.specs.Callers.{list_item}
use Rattle.bitstream_io.specs.Loop.{ItemsRead}
use Rattle.flac_codec.specs.Rice.{rice_decoder}
use Rattle.flac_codec.proofs.numbers.read_numbers.Given as goal

-- the numbers so far were read
abbrev pub invariant-loop : goal.invariant-loop
invariant-loop g l =
    let K = g.R.BitRead.source in
    ItemsRead K (list_item (rice_decoder K.order l.parameter)) l.counter l.initial.reader l.found.items l.reader
