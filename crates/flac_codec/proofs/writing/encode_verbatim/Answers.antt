use Rattle.std.proofs.Common.{arith, ◌≤◌}
use Rattle.flac_codec.proofs.SubframeLemmas.{value_written, verbatim-back, verbatim-packs}
use Rattle.flac_codec.proofs.writing.encode_verbatim.Goals as goal

pub returns : goal.returns
returns g c =
    let o = g.W.BitWrite.sink.order in
    let within : c.args.width ≤ 64 = omega (arith, c.requires.within) in
    value_written c.write_verbatim.ensures
    (verbatim-packs o c.args.width c.requires.some within c.args.wasted c.args.samples.now c.requires.fit)
    (verbatim-back o c.args.width c.args.wasted c.requires.some c.requires.within c.args.samples.now c.requires.fit)
