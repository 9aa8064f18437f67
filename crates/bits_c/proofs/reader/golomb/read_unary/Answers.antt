use Rattle.std.proofs.Common.{◌+◌, ◌≤◌, drop, arith}
use Rattle.bitstream_io.specs.Callers.{bits}
use Rattle.bitstream_io.specs.Unary.{lead}
use Rattle.bits_c.proofs.reader.golomb.read_unary.Goals as goal

pub returns-then-value-limit-clause-there : goal.returns-then-value-limit-clause-there
returns-then-value-limit-clause-there g c = λ room.
    let reader = c.args.reader.now in
    let goes_on = c.lead_at-value.ensures.goes_on c.if-value-limit.true in
    let most : lead c.args.stop (drop reader.at (bits g.O.Endianness.order reader.bytes.now)) + 1 ≤ c.all_left-limit.result =
    c.all_left-limit.ensures.most _ room in
    absurd (omega (arith, goes_on, most))
