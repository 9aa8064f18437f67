-- Made by `./format --c` from ../network_messages/formats/ipv4_packet.fields: edit that file and make this one anew.
use Rattle.network_messages_c.specs.Ipv4Packet.{ipv4_packet_of}
use Rattle.network_messages.specs.Ipv4Packet.{ipv4_packet_writes}
use Rattle.network_messages_c.proofs.Ipv4PacketLemmas.{ipv4_packet_most}
use Rattle.network_messages.proofs.Ipv4PacketLemmas.{ipv4_packet_packs}
use Rattle.network_messages_c.proofs.VariedLemmas.{counted_past}
use Rattle.std.proofs.Common.{◌∙◌, refl, arith}
use Rattle.bitstream_io.proofs.SequenceLemmas.{counted}
use Rattle.bitstream_io.specs.Callers.{High}
use Rattle.network_messages_c.proofs.ipv4_packet.size.Goals as goal

pub returns : goal.returns
returns c =
    let all = ipv4_packet_packs High (ipv4_packet_of c.args.fields.now) c.requires in
    c.into_written.ensures ∙ counted _ (ipv4_packet_writes High (ipv4_packet_of c.args.fields.now)) _ _ refl c.new-counter.ensures c.in-Ok.ensures ∙ all.size 0

pub unreachable-requires : goal.unreachable-requires
unreachable-requires c =
    let all = ipv4_packet_packs High (ipv4_packet_of c.args.fields.now) c.requires in
    let size = all.size 0 in
    let most = ipv4_packet_most (ipv4_packet_of c.args.fields.now) c.requires in
    let more = counted_past _ 18446744073709551615 refl (λ x may. may) (ipv4_packet_writes High (ipv4_packet_of c.args.fields.now)) _ _ _ c.new-counter.ensures
    refl (all.accepted 0) c.in-Err.ensures in
    omega (arith, more, size, most)
