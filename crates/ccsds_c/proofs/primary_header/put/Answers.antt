-- Made by `./format --c` from ../bitstream_callers/formats/primary_header.fields: edit that file and make this one anew.
use Rattle.std.proofs.Common.{refl, arith, rules}
use Rattle.bitstream_callers.specs.PrimaryHeader.{Fits}
use Rattle.bitstream_callers.proofs.PrimaryHeaderLemmas.{primary_header_packs, told}
use Rattle.bitstream_io.specs.Callers.{High}
use Rattle.ccsds_c.proofs.SharedLemmas.{bytes_of, packs-begun}
use Rattle.ccsds_c.proofs.primary_header.put.Goals as goal

pub write_first-requires-clause-accepted : goal.write_first-requires-clause-accepted
write_first-requires-clause-accepted c =
    let fits : Fits c.args.fields.now = search rules in
    (primary_header_packs High c.args.fields.now fits).accepted 0

pub write_first-requires-clause-room : goal.write_first-requires-clause-room
write_first-requires-clause-room c =
    let fits : Fits c.args.fields.now = search rules in
    omega (arith, bytes_of (primary_header_packs High c.args.fields.now fits))

pub returns : goal.returns
returns c =
    let fits : Fits c.args.fields.now = search rules in
    packs-begun fits (primary_header_packs High c.args.fields.now fits) refl (omega arith) (told c.args.fields.now) c.write_first.ensures
