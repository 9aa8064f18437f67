use Rattle.std.proofs.Common.{rules, arith, ap, ◌<◌, ◌-◌, ◌/◌, ◌^◌}
use Rattle.bitstream_number.specs.Word.{High}
use Rattle.bitstream_order.proofs.PartLemmas.{first_below}
use Rattle.bitstream_order.proofs.order.BigEndianEndianness.first.Goals as goal

pub returns-clause-value : goal.returns-clause-value
returns-clause-value c = ap (λ byte. byte / 2 ^ (8 - c.args.n)) c.from.ensures

pub returns-clause-below : goal.returns-clause-below
returns-clause-below c =
    let few = c.requires in
    let byte : c.from.result < 256 = search rules in
    first_below High c.from.result 8 c.args.n byte (omega arith)
