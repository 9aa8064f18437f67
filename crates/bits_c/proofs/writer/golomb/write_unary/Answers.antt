use Rattle.std.proofs.Common.{arith}
use Rattle.bitstream_io.specs.Unary.{unary}
use Rattle.bitstream_io.proofs.UnaryLemmas.{length-unary}
use Rattle.bits_c.proofs.WroteLemmas.{did-write, no-room}
use Rattle.bits_c.proofs.writer.golomb.write_unary.Goals as goal

pub returns-then-not-has_room : goal.returns-then-not-has_room
returns-then-not-has_room g c =
    let long = length-unary c.args.stop c.args.count in
    no-room g.O.Endianness.order (unary c.args.stop c.args.count) c.args.writer.now _ _ c.has_room.ensures
    c.if-not-has_room.true (omega (arith, long, c.from.ensures))

pub returns : goal.returns
returns g c =
    let long = length-unary c.args.stop c.args.count in
    did-write g.O.Endianness.order (unary c.args.stop c.args.count) c.args.writer.now _ _ _ c.has_room.ensures
    c.if-not-has_room.false (omega (arith, long, c.from.ensures)) c.append_unary.ensures
