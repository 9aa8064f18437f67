use Rattle.std.proofs.Common.{arith}
use Rattle.bitstream_io.specs.Callers.{bits}
use Rattle.bitstream_io.proofs.WordLemmas.{length-bits}
use Rattle.bits_c.proofs.BitLemmas.{fill-step}
use Rattle.bits_c.proofs.ReaderLemmas.{part_below}
use Rattle.bits_c.proofs.reader.bytes.fill.Goals as goal

pub overflow_cast-buffer : goal.overflow_cast-buffer
overflow_cast-buffer g c =
    let o = g.O.Endianness.order in
    let there = c.requires.there in
    let long = length-bits o c.args.bytes.now in
    record {
      fits = part_below o 8 _ c.number_at.result (bits o c.args.bytes.now) (omega (arith, there, long)) c.number_at.ensures;
    }

pub loop-k-preserved : goal.loop-k-preserved
loop-k-preserved g c =
    let o = g.O.Endianness.order in
    let there = c.requires.there in
    fill-step o c.args.bytes.now c.loop-k.buffer c.args.at c.loop-k.k c.number_at.result (omega arith) (omega (arith, there))
    c.number_at.ensures c.loop-k.invariant
