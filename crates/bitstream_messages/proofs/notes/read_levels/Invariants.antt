-- Made by `./format` from formats/notes.fields: edit that file and make this one anew.
use Rattle.bitstream_io.specs.Callers.{list_item, unsigned_decoder}
use Rattle.bitstream_io.specs.Loop.{ItemsRead}
use Rattle.bitstream_messages.proofs.notes.read_levels.Given as goal

-- the items so far were read
abbrev pub invariant-loop : goal.invariant-loop
invariant-loop g l =
    let K = g.R.BitRead.source in
    ItemsRead K (list_item (unsigned_decoder K.order 16 16)) l.counter l.initial.reader l.found.items l.reader
