-- Made by `./format --c` from ../protocols/formats/stun_header.fields: edit that file and make this one anew.
use Rattle.std.proofs.Common.{refl, arith, rules}
use Rattle.protocols.specs.StunHeader.{Fits}
use Rattle.protocols.proofs.StunHeaderLemmas.{stun_header_packs, told}
use Rattle.bitstream_io.specs.Callers.{High}
use Rattle.protocols_c.proofs.SharedLemmas.{bytes_of, packs-begun}
use Rattle.protocols_c.proofs.stun_header.put.Goals as goal

pub write_first-requires-clause-accepted : goal.write_first-requires-clause-accepted
write_first-requires-clause-accepted c =
    let fits : Fits c.args.fields.now = search rules in
    (stun_header_packs High c.args.fields.now fits).accepted 0

pub write_first-requires-clause-room : goal.write_first-requires-clause-room
write_first-requires-clause-room c =
    let fits : Fits c.args.fields.now = search rules in
    omega (arith, bytes_of (stun_header_packs High c.args.fields.now fits))

pub returns : goal.returns
returns c =
    let fits : Fits c.args.fields.now = search rules in
    packs-begun fits (stun_header_packs High c.args.fields.now fits) refl (omega arith) (told c.args.fields.now) c.write_first.ensures
