-- Made by `./format --c` from ../protocols/formats/coap_header.fields: edit that file and make this one anew.
use Rattle.protocols_c.specs.CoapHeader.{coap_header_bytes, coap_header_of}
use Rattle.protocols.specs.CoapHeader.{Fits}
use Rattle.protocols.proofs.CoapHeaderLemmas.{coap_header_packs, told}
use Rattle.protocols_c.proofs.SharedLemmas.{bytes_of, packs-begun}
use Rattle.std.proofs.Common.{◌≡◌, refl, arith, rules}
use Rattle.bitstream_io.specs.Callers.{High}
use Rattle.protocols_c.proofs.coap_header.put.Goals as goal

pub write_first-requires-clause-accepted : goal.write_first-requires-clause-accepted
write_first-requires-clause-accepted c =
    let fits : Fits (coap_header_of c.args.fields.now) = search rules in
    (coap_header_packs High (coap_header_of c.args.fields.now) fits).accepted 0

pub write_first-requires-clause-room : goal.write_first-requires-clause-room
write_first-requires-clause-room c =
    let fits : Fits (coap_header_of c.args.fields.now) = search rules in
    let size = c.size.ensures in
    let whole = c.div_ceil-written.ensures in
    let same : c.div_ceil-written.result ≡ coap_header_bytes (coap_header_of c.args.fields.now) = omega arith in
    omega (arith, same, bytes_of (coap_header_packs High (coap_header_of c.args.fields.now) fits))

pub returns : goal.returns
returns c =
    let fits : Fits (coap_header_of c.args.fields.now) = search rules in
    let size = c.size.ensures in
    let whole = c.div_ceil-written.ensures in
    let same : c.div_ceil-written.result ≡ coap_header_bytes (coap_header_of c.args.fields.now) = omega arith in
    rw same (packs-begun fits (coap_header_packs High (coap_header_of c.args.fields.now) fits) refl (omega arith) (told (coap_header_of c.args.fields.now)) c.write_first.ensures)
