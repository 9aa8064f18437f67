-- Made by `./format --c` from ../network_messages/formats/ipv4_pseudo.fields: edit that file and make this one anew.
use Rattle.std.proofs.Common.{refl, arith, rules}
use Rattle.network_messages.specs.Ipv4Pseudo.{Fits}
use Rattle.network_messages.proofs.Ipv4PseudoLemmas.{ipv4_pseudo_packs, told}
use Rattle.bitstream_io.specs.Callers.{High}
use Rattle.network_messages_c.proofs.SharedLemmas.{bytes_of, packs-begun}
use Rattle.network_messages_c.proofs.ipv4_pseudo.put.Goals as goal

pub write_first-requires-clause-accepted : goal.write_first-requires-clause-accepted
write_first-requires-clause-accepted c =
    let fits : Fits c.args.fields.now = search rules in
    (ipv4_pseudo_packs High c.args.fields.now fits).accepted 0

pub write_first-requires-clause-room : goal.write_first-requires-clause-room
write_first-requires-clause-room c =
    let fits : Fits c.args.fields.now = search rules in
    omega (arith, bytes_of (ipv4_pseudo_packs High c.args.fields.now fits))

pub returns : goal.returns
returns c =
    let fits : Fits c.args.fields.now = search rules in
    packs-begun fits (ipv4_pseudo_packs High c.args.fields.now fits) refl (omega arith) (told c.args.fields.now) c.write_first.ensures
