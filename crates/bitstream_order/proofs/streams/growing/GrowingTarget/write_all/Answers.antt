use Rattle.std.proofs.Common.{arith}
use Rattle.bitstream_order.proofs.streams.growing.GrowingTarget.write_all.Goals as goal

pub returns-in-Err-clause-refused : goal.returns-in-Err-clause-refused
returns-in-Err-clause-refused g c =
    let held = c.args.self.now.bytes.ok in
    let full = c.in-Err.ensures.1 in
    record {
      memory = c.from.ensures;
      some = omega arith;
      full = omega arith;
      same = c.in-Err.ensures.0;
    }
