use Rattle.std.proofs.Common.{not, arith}
use Rattle.bits_c.proofs.RunLemmas.{unary-room, unary-wrote}
use Rattle.bits_c.proofs.writer.golomb.append_unary.Goals as goal

pub append_others-requires : goal.append_others-requires
append_others-requires g c =
    let r = c.requires.0 in
    let t = c.requires.1 in
    (omega (arith, r), omega (arith, t))

pub append-requires-clause-room : goal.append-requires-clause-room
append-requires-clause-room g c =
    unary-room g.O.Endianness.order (not c.args.stop) c.args.count _ _ c.requires c.append_others.ensures

pub returns : goal.returns
returns g c =
    unary-wrote g.O.Endianness.order c.args.stop c.args.count _ _ _ _ c.requires c.append_others.ensures
    (c.number_of.ensures.bits g.O.Endianness.order) c.append.ensures
