use Rattle.std.proofs.Common.{rules, arith, ◌^◌, ◌<◌, ap, refl}
use Rattle.std.specs.Prelude.{◌==◌}
use Rattle.bitstream_stream.specs.Reading.Reads.{was_done, was_refused}
use Rattle.bitstream_stream.proofs.Reading.UnaryReads.{unary-failed, unary-as, lead_answered, lead_too_long, lead_stopped, lead_fetched, long_fetched}
use Rattle.bitstream_stream.proofs.read.reader.BitReaderBitRead.read_unary.Goals as goal

pub returns-then-self-clause-reads : goal.returns-then-self-clause-reads
returns-then-self-clause-reads g c = unary-failed _ _ c.if-self.true

pub invariant_of-self : goal.invariant_of-self
invariant_of-self g c =
    let f = lead_fetched g.E.Endianness.order c.args.self.now.queued _ _ c.in-Ok-Some.run'.count
    c.in-Ok-Some.run'.queued _ _ _ (rw c.in-Ok-Some.field-0-is at c.in-Ok-Some.ensures.takes) in
    let few : c.in-Ok-Some.run'.queued < 8 = rw c.in-Ok-Some.field-0-is at c.in-Ok-Some.ensures.few in
    let back = c.args.self.now.back c.if-self.false in
    let taken = c.add.ensures in
    record {
      few = few;
      whole = omega arith;
      back = λ fine. omega arith;
      empty = λ failed. cc;
    }

pub invariant_of-self-in-Ok-None : goal.invariant_of-self-in-Ok-None
invariant_of-self-in-Ok-None g c =
    let o = g.E.Endianness.order in
    let f = long_fetched o c.args.self.now.queued _ _ _ _ (rw c.in-Ok-None.field-0-is at c.in-Ok-None.ensures.takes) in
    let back = c.args.self.now.back c.if-self.false in
    let taken = c.add-in-Ok-None.ensures in
    record {
      few = omega arith;
      whole = let least = f.0 in let most = f.1 in omega arith;
      back = λ fine. cc;
      empty = λ failed. refl;
    }

pub invariant_of-self-in-Err : goal.invariant_of-self-in-Err
invariant_of-self-in-Err g c =
    let taken = c.fetched_bits-self.ensures in
    record {
      few = omega arith;
      whole = omega arith;
      back = λ fine. cc;
      empty = λ failed. refl;
    }

pub returns-in-Ok-Some-clause-reads : goal.returns-in-Ok-Some-clause-reads
returns-in-Ok-Some-clause-reads g c =
    let stop = c.BITS-stop.result == 1 in
    let few : c.in-Ok-Some.run'.count < 2 ^ 32 = search rules in
    unary-as stop _ (ap (λ n. n == 1) c.BITS-stop.ensures)
    (was_done (lead_answered g.E.Endianness.order stop _ _ _ _ _ _ _ c.in-Ok-Some.run'.count _ _ _ c.if-self.false refl
    few c.add.ensures (rw c.in-Ok-Some.field-0-is at c.in-Ok-Some.ensures.takes)))

pub returns-in-Ok-None-clause-reads : goal.returns-in-Ok-None-clause-reads
returns-in-Ok-None-clause-reads g c =
    let stop = c.BITS-stop.result == 1 in
    unary-as stop _ (ap (λ n. n == 1) c.BITS-stop.ensures)
    (was_done (lead_too_long g.E.Endianness.order stop _ _ _ _ _ _ _ _ c.if-self.false c.add-in-Ok-None.ensures
    (rw c.in-Ok-None.field-0-is at c.in-Ok-None.ensures.takes)))

pub returns-in-Err-clause-reads : goal.returns-in-Err-clause-reads
returns-in-Err-clause-reads g c =
    let stop = c.BITS-stop.result == 1 in
    unary-as stop _ (ap (λ n. n == 1) c.BITS-stop.ensures)
    (was_refused (lead_stopped g.E.Endianness.order stop _ _ _ _ _ _ _ _ _ _ c.if-self.false
    (
    let back = c.args.self.now.back c.if-self.false in
    let taken = c.fetched_bits-self.ensures in
    let more = c.in-Err.ensures.takes.takes.fetched in
    let none = c.in-Err.ensures.takes.refused.fetched in
    omega arith
    ) c.in-Err.ensures.takes))
