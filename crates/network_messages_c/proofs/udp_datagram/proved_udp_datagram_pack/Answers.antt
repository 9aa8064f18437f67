-- Made by `./format --c` from ../network_messages/formats/udp_datagram.fields: edit that file and make this one anew.
use Rattle.network_messages_c.specs.UdpDatagram.{udp_datagram_held, udp_datagram_room, udp_datagram_of}
use Rattle.network_messages_c.specs.Shared.{PacksInto}
use Rattle.network_messages.specs.UdpDatagram.{Fits}
use Rattle.std.proofs.Common.{◌∙◌, sym, ap, subst}
use Rattle.std.specs.Prelude.{option_map, IsSomeAnd}
use Rattle.bitstream_io.specs.Callers.{High}
use Rattle.network_messages_c.proofs.udp_datagram.proved_udp_datagram_pack.Goals as goal

pub returns-in-Some : goal.returns-in-Some
returns-in-Some c =
    let is = sym c.fields.ensures ∙ ap (option_map udp_datagram_of) c.in-Some.is in
    subst (λ it. PacksInto (IsSomeAnd it Fits) High (udp_datagram_room it) (udp_datagram_held it)
    c.args.buffer.now c.put.result c.put.new.buffer) (sym is) c.put.ensures
