use Rattle.bits_c.proofs.PutLemmas.{byte-put, byte-whole, piece-below, put-below}
use Rattle.bits_c.proofs.writer.put_in.Goals as goal

pub returns-then-width-eq8 : goal.returns-then-width-eq8
returns-then-width-eq8 g c =
    byte-whole g.O.Endianness.order c.args.byte c.args.skipped c.args.width c.args.part c.if-width-eq8.true c.requires.within

pub put-requires-2-clause-below : goal.put-requires-2-clause-below
put-requires-2-clause-below g c =
    let o = g.O.Endianness.order in
    rw (c.put.ensures, c.cut-before.ensures)
    (put-below o _ c.args.skipped c.args.part c.args.width (piece-below o 8 c.args.byte 0 c.args.skipped) c.requires.fits)

pub returns : goal.returns
returns g c =
    let o = g.O.Endianness.order in
    let s = c.args.skipped in
    let n = c.args.width in
    rw (c.put-2.ensures, c.put.ensures, c.cut-before.ensures, c.cut-after.ensures)
    (byte-put o c.args.byte s n c.args.part c.requires.within c.requires.fits)
