-- Made by `./format --c` from ../network_messages/formats/ipv4_packet.fields: edit that file and make this one anew.
use Rattle.network_messages_c.specs.Ipv4Packet.{ipv4_packet_bytes, ipv4_packet_of}
use Rattle.network_messages.specs.Ipv4Packet.{Fits}
use Rattle.network_messages.proofs.Ipv4PacketLemmas.{ipv4_packet_packs, told}
use Rattle.network_messages_c.proofs.SharedLemmas.{bytes_of, packs-begun}
use Rattle.std.proofs.Common.{◌≡◌, refl, arith, rules}
use Rattle.bitstream_io.specs.Callers.{High}
use Rattle.network_messages_c.proofs.ipv4_packet.put.Goals as goal

pub write_first-requires-clause-accepted : goal.write_first-requires-clause-accepted
write_first-requires-clause-accepted c =
    let fits : Fits (ipv4_packet_of c.args.fields.now) = search rules in
    (ipv4_packet_packs High (ipv4_packet_of c.args.fields.now) fits).accepted 0

pub write_first-requires-clause-room : goal.write_first-requires-clause-room
write_first-requires-clause-room c =
    let fits : Fits (ipv4_packet_of c.args.fields.now) = search rules in
    let size = c.size.ensures in
    let whole = c.div_ceil-written.ensures in
    let same : c.div_ceil-written.result ≡ ipv4_packet_bytes (ipv4_packet_of c.args.fields.now) = omega arith in
    omega (arith, same, bytes_of (ipv4_packet_packs High (ipv4_packet_of c.args.fields.now) fits))

pub returns : goal.returns
returns c =
    let fits : Fits (ipv4_packet_of c.args.fields.now) = search rules in
    let size = c.size.ensures in
    let whole = c.div_ceil-written.ensures in
    let same : c.div_ceil-written.result ≡ ipv4_packet_bytes (ipv4_packet_of c.args.fields.now) = omega arith in
    rw same (packs-begun fits (ipv4_packet_packs High (ipv4_packet_of c.args.fields.now) fits) refl (omega arith) (told (ipv4_packet_of c.args.fields.now)) c.write_first.ensures)
