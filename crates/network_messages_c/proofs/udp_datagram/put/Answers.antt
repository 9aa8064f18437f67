-- Made by `./format --c` from ../network_messages/formats/udp_datagram.fields: edit that file and make this one anew.
use Rattle.network_messages_c.specs.UdpDatagram.{udp_datagram_bytes, udp_datagram_of}
use Rattle.network_messages.specs.UdpDatagram.{Fits}
use Rattle.network_messages.proofs.UdpDatagramLemmas.{udp_datagram_packs, told}
use Rattle.network_messages_c.proofs.SharedLemmas.{bytes_of, packs-begun}
use Rattle.std.proofs.Common.{◌≡◌, refl, arith, rules}
use Rattle.bitstream_io.specs.Callers.{High}
use Rattle.network_messages_c.proofs.udp_datagram.put.Goals as goal

pub write_first-requires-clause-accepted : goal.write_first-requires-clause-accepted
write_first-requires-clause-accepted c =
    let fits : Fits (udp_datagram_of c.args.fields.now) = search rules in
    (udp_datagram_packs High (udp_datagram_of c.args.fields.now) fits).accepted 0

pub write_first-requires-clause-room : goal.write_first-requires-clause-room
write_first-requires-clause-room c =
    let fits : Fits (udp_datagram_of c.args.fields.now) = search rules in
    let size = c.size.ensures in
    let whole = c.div_ceil-written.ensures in
    let same : c.div_ceil-written.result ≡ udp_datagram_bytes (udp_datagram_of c.args.fields.now) = omega arith in
    omega (arith, same, bytes_of (udp_datagram_packs High (udp_datagram_of c.args.fields.now) fits))

pub returns : goal.returns
returns c =
    let fits : Fits (udp_datagram_of c.args.fields.now) = search rules in
    let size = c.size.ensures in
    let whole = c.div_ceil-written.ensures in
    let same : c.div_ceil-written.result ≡ udp_datagram_bytes (udp_datagram_of c.args.fields.now) = omega arith in
    rw same (packs-begun fits (udp_datagram_packs High (udp_datagram_of c.args.fields.now) fits) refl (omega arith) (told (udp_datagram_of c.args.fields.now)) c.write_first.ensures)
