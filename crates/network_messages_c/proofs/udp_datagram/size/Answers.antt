-- Made by `./format --c` from ../network_messages/formats/udp_datagram.fields: edit that file and make this one anew.
use Rattle.network_messages_c.specs.UdpDatagram.{udp_datagram_of}
use Rattle.network_messages.specs.UdpDatagram.{udp_datagram_writes}
use Rattle.network_messages_c.proofs.UdpDatagramLemmas.{udp_datagram_most}
use Rattle.network_messages.proofs.UdpDatagramLemmas.{udp_datagram_packs}
use Rattle.network_messages_c.proofs.VariedLemmas.{counted_past}
use Rattle.std.proofs.Common.{◌∙◌, refl, arith}
use Rattle.bitstream_io.proofs.SequenceLemmas.{counted}
use Rattle.bitstream_io.specs.Callers.{High}
use Rattle.network_messages_c.proofs.udp_datagram.size.Goals as goal

pub returns : goal.returns
returns c =
    let all = udp_datagram_packs High (udp_datagram_of c.args.fields.now) c.requires in
    c.into_written.ensures ∙ counted _ (udp_datagram_writes High (udp_datagram_of c.args.fields.now)) _ _ refl c.new-counter.ensures c.in-Ok.ensures ∙ all.size 0

pub unreachable-requires : goal.unreachable-requires
unreachable-requires c =
    let all = udp_datagram_packs High (udp_datagram_of c.args.fields.now) c.requires in
    let size = all.size 0 in
    let most = udp_datagram_most (udp_datagram_of c.args.fields.now) c.requires in
    let more = counted_past _ 18446744073709551615 refl (λ x may. may) (udp_datagram_writes High (udp_datagram_of c.args.fields.now)) _ _ _ c.new-counter.ensures
    refl (all.accepted 0) c.in-Err.ensures in
    omega (arith, more, size, most)
