-- Made by `./format --c` from ../protocols/formats/icmp_header.fields: edit that file and make this one anew.
use Rattle.protocols_c.specs.IcmpHeader.{icmp_header_bytes}
use Rattle.protocols.specs.IcmpHeader.{Fits}
use Rattle.protocols.proofs.IcmpHeaderLemmas.{icmp_header_packs, told}
use Rattle.protocols_c.proofs.SharedLemmas.{bytes_of, packs-begun}
use Rattle.std.proofs.Common.{◌≡◌, refl, arith, rules}
use Rattle.bitstream_io.specs.Callers.{High}
use Rattle.protocols_c.proofs.icmp_header.put.Goals as goal

pub write_first-requires-clause-accepted : goal.write_first-requires-clause-accepted
write_first-requires-clause-accepted c =
    let fits : Fits c.args.fields.now = search rules in
    (icmp_header_packs High c.args.fields.now fits).accepted 0

pub write_first-requires-clause-room : goal.write_first-requires-clause-room
write_first-requires-clause-room c =
    let fits : Fits c.args.fields.now = search rules in
    let size = c.size.ensures in
    let whole = c.div_ceil-written.ensures in
    let same : c.div_ceil-written.result ≡ icmp_header_bytes c.args.fields.now = omega arith in
    omega (arith, same, bytes_of (icmp_header_packs High c.args.fields.now fits))

pub returns : goal.returns
returns c =
    let fits : Fits c.args.fields.now = search rules in
    let size = c.size.ensures in
    let whole = c.div_ceil-written.ensures in
    let same : c.div_ceil-written.result ≡ icmp_header_bytes c.args.fields.now = omega arith in
    rw same (packs-begun fits (icmp_header_packs High c.args.fields.now fits) refl (omega arith) (told c.args.fields.now) c.write_first.ensures)
