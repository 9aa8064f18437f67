-- Made by `./format --c` from ../network_messages/formats/udp_datagram.fields: edit that file and make this one anew.
use Rattle.std.proofs.Common.{Ok}
use Rattle.bitstream_io.specs.Callers.{Reads, bytes_decoder}
use Rattle.network_messages_c.specs.Lists.{ItemsKept}
use Rattle.network_messages_c.proofs.udp_datagram.read_data.Given as goal

-- the items so far were read and kept
abbrev pub invariant-loop-place : goal.invariant-loop-place
invariant-loop-place g l =
    let K = g.R.BitRead.source in
    ItemsKept (λ all. Reads K (bytes_decoder K.order l.place) l.fn.reader (Ok all) l.reader) l.place l.initial.items l.items
