use Rattle.std.proofs.Common.{◌∙◌, arith, refl, sym}
use Rattle.bitstream_stream.specs.Reading.Memory.{taken_bits}
use Rattle.bitstream_io.proofs.PlaceLemmas.{is_at}
use Rattle.bitstream_io.proofs.SoughtLemmas.{knows_place, rest_all, sought}
use Rattle.bitstream_io.proofs.symbols.read.leave.Goals as goal

pub returns-clause-some : goal.returns-clause-some
returns-clause-some g c =
    let o = g.E.Endianness.order in
    let old = c.args.reader.now in
    let mid = c.seek_bits-sought.new.self in
    let known = knows_place old.failed (taken_bits old.all.now old.bytes.now old.bit) c.in-Ok.place
    c.in-Ok.ensures.failed c.in-Ok.ensures.place c.in-Ok.ensures.above in
    let first = sought o 0 old mid (omega arith) _ (omega arith) c.seek_bits-sought.ensures in
    let rest = rest_all o mid c.rest.result.now first.taken c.rest.ensures in
    record {
      fine = known.0;
      state = is_at o old c.rest.result.now c.in-Ok.place old.refusals.list known.0 (sym (rest ∙ first.bytes))
          (sym known.1) refl;
      bytes = sym rest;
      refusals = first.refusals;
    }
