-- Made by `./format --c` from ../network_messages/formats/ipv4_packet.fields: edit that file and make this one anew.
use Rattle.network_messages_c.specs.Ipv4Packet.{ipv4_packet_held, ipv4_packet_room, ipv4_packet_of}
use Rattle.network_messages_c.specs.Shared.{PacksInto}
use Rattle.network_messages.specs.Ipv4Packet.{Fits}
use Rattle.std.proofs.Common.{◌∙◌, sym, ap, subst}
use Rattle.std.specs.Prelude.{option_map, IsSomeAnd}
use Rattle.bitstream_io.specs.Callers.{High}
use Rattle.network_messages_c.proofs.ipv4_packet.proved_ipv4_packet_pack.Goals as goal

pub returns-in-Some : goal.returns-in-Some
returns-in-Some c =
    let is = sym c.fields.ensures ∙ ap (option_map ipv4_packet_of) c.in-Some.is in
    subst (λ it. PacksInto (IsSomeAnd it Fits) High (ipv4_packet_room it) (ipv4_packet_held it)
    c.args.buffer.now c.put.result c.put.new.buffer) (sym is) c.put.ensures
