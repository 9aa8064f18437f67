use Rattle.std.proofs.Common.{arith, ◌<◌, ◌^◌, ◌∙◌, ap}
use Rattle.bitstream_number.specs.Word.{count_width}
use Rattle.bitstream_stream.proofs.Reading.SignedLemmas.{count-was_done, count-stops, count_never_above, map_is}
use Rattle.bitstream_stream.proofs.read.reader.BitReaderBitRead.read_count.Goals as goal

pub returns-in_err-number-clause-reads : goal.returns-in_err-number-clause-reads
returns-in_err-number-clause-reads g c =
    count-stops _ g.C.Count.MAX _ (c.count_bits.ensures.width ∙ ap count_width c.MAX.ensures) c.count_bits.ensures.bound
    (map_is _ g.C.Count.number c.from_residual.result c.from_residual.ensures.1) c.in_err-number.ensures.reads

pub returns-in_err-number-clause-asks : goal.returns-in_err-number-clause-asks
returns-in_err-number-clause-asks g c = rw (c.count_bits.ensures.width, c.MAX.ensures) at c.in_err-number.ensures.asks

pub unreachable-requires : goal.unreachable-requires
unreachable-requires g c =
    let max : c.MAX.result < 2 ^ 32 = c.MAX.type_inv in
    let is = c.MAX.ensures in
    count_never_above _ g.C.Count.MAX _ _ (omega (arith, max, is)) c.requires.full (c.count_bits.ensures.width
    ∙ ap count_width is) c.in_ok-number.ensures.reads c.in-None.ensures

pub returns-clause-reads : goal.returns-clause-reads
returns-clause-reads g c =
    count-was_done _ g.C.Count.MAX _ _ _ (c.count_bits.ensures.width ∙ ap count_width c.MAX.ensures)
    c.count_bits.ensures.bound c.in-Some.ensures.1 c.in_ok-number.ensures.reads

pub returns-clause-asks : goal.returns-clause-asks
returns-clause-asks g c = rw (c.count_bits.ensures.width, c.MAX.ensures) at c.in_ok-number.ensures.asks
