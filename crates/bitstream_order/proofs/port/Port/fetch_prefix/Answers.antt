use Rattle.std.proofs.Common.{arith, refl, length-take-le}
use Rattle.bitstream_order.proofs.port.Port.fetch_prefix.Goals as goal

pub returns-in-Ok-clause-fetches : goal.returns-in-Ok-clause-fetches
returns-in-Ok-clause-fetches g c =
    let size = length-take-le c.args.count c.read_prefix.new.buf (omega arith) in
    record {
      loses = c.in-Ok.ensures.bytes;
      fetched = omega arith;
      sent = refl;
      requests = c.add.ensures;
      refusals = refl;
      references = c.read_prefix.ensures.references;
    }
