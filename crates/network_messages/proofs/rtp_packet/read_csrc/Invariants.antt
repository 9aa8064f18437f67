-- Made by `./format` from formats/rtp_packet.fields: edit that file and make this one anew.
use Rattle.bitstream_io.specs.Callers.{list_item, unsigned_decoder}
use Rattle.bitstream_io.specs.Loop.{ItemsRead}
use Rattle.network_messages.proofs.rtp_packet.read_csrc.Given as goal

-- the items so far were read
abbrev pub invariant-loop : goal.invariant-loop
invariant-loop g l =
    let K = g.R.BitRead.source in
    ItemsRead K (list_item (unsigned_decoder K.order 32 32)) l.counter l.initial.reader l.found.items l.reader
