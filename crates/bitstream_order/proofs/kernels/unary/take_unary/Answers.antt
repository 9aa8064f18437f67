use Rattle.std.proofs.Common.{rules, arith, ◌≡◌, ◌+◌, ◌^◌, ◌≤◌, refl}
use Rattle.bitstream_order.specs.Port.{source_state}
use Rattle.bitstream_order.proofs.Moving.LeadLemmas.{between_none, byte_waits, lead_of_byte, all_others, lead_ends, lead_long, lead_refused}
use Rattle.bitstream_order.proofs.kernels.unary.take_unary.Goals as goal

pub returns-then-first-queued-clause-takes : goal.returns-then-first-queued-clause-takes
returns-then-first-queued-clause-takes g c =
    let o = g.E.Endianness.order in
    let few = c.requires in
    lead_ends o c.args.stop _ _ 0 c.args.queue c.args.queued c.run_length-first.result c.run_length-first.result _ c.rest.result
    c.rest-then-first-queued.result _
    (omega arith) c.run_length-first.ensures c.if-first-queued.true refl (omega arith) c.rest.ensures
    c.rest-then-first-queued.ensures (between_none o _ _)

pub loop-byte-init : goal.loop-byte-init
loop-byte-init g c =
    let o = g.E.Endianness.order in
    let few = c.requires in
    let lead = c.run_length-first.ensures in
    let none = c.if-first-queued.false in
    let turn = c.add.ensures in
    record {
      small = omega arith;
      takes = all_others o c.args.stop _ _ 0 c.args.queue c.args.queued c.args.queued _ (omega arith) (omega arith)
          (omega arith) (between_none o _ _);
      turns = omega arith;
      fetched = omega arith;
    }

pub returns-in_err-byte-clause-takes : goal.returns-in_err-byte-clause-takes
returns-in_err-byte-clause-takes g c =
    lead_refused _ g.E.Endianness.order c.args.stop _ _ _ _ c.from_residual.result c.from_residual.ensures.1 (record {
      count = c.loop-byte.count;
      few = c.loop-byte.invariant.small;
      mid = source_state g.S.Source.stream c.loop-byte.port;
      takes = c.loop-byte.invariant.takes;
      refused = c.in_err-byte.ensures;
    })

pub returns-in_default-clause-takes : goal.returns-in_default-clause-takes
returns-in_default-clause-takes g c =
    let o = g.E.Endianness.order in
    let inv = c.loop-byte.invariant in
    let lead = c.run_length-lead.ensures in
    let long : 2 ^ 32 ≤ c.loop-byte.count + c.run_length-lead.result = omega (arith, c.in_default.ensures) in
    lead_long o c.args.stop _ _ c.loop-byte.count c.in_ok-byte.byte 8 c.run_length-lead.result _ (omega arith)
    (lead_of_byte o c.args.stop c.in_ok-byte.byte _ lead) (omega arith) inv.small long
    (byte_waits o _ _ c.in_ok-byte.byte _ _ _ inv.takes c.in_ok-byte.ensures)

pub returns-in_default-clause-turns : goal.returns-in_default-clause-turns
returns-in_default-clause-turns g c =
    let inv = c.loop-byte.invariant in
    let byte = c.in_ok-byte.ensures.fetched in
    let turn = c.add-in-loop-byte.ensures in
    omega (arith, inv.turns, inv.fetched)

pub returns-then-lead-lt8-clause-takes : goal.returns-then-lead-lt8-clause-takes
returns-then-lead-lt8-clause-takes g c =
    let o = g.E.Endianness.order in
    let less = c.if-lead-lt8.true in
    lead_ends o c.args.stop _ _ c.loop-byte.count c.in_ok-byte.byte 8 c.run_length-lead.result c.in-Some.more _
    c.rest-then-lead-lt8.result c.rest-then-lead-lt8-2.result _
    (omega arith) c.run_length-lead.ensures less (omega arith) (search rules) c.rest-then-lead-lt8.ensures
    c.rest-then-lead-lt8-2.ensures (byte_waits o _ _ c.in_ok-byte.byte _ _ _ c.loop-byte.invariant.takes
    c.in_ok-byte.ensures)

pub returns-then-lead-lt8-clause-turns : goal.returns-then-lead-lt8-clause-turns
returns-then-lead-lt8-clause-turns g c =
    let inv = c.loop-byte.invariant in
    let byte = c.in_ok-byte.ensures.fetched in
    let turn = c.add-in-loop-byte.ensures in
    omega (arith, inv.turns, inv.fetched)

pub loop-byte-preserved : goal.loop-byte-preserved
loop-byte-preserved g c =
    let o = g.E.Endianness.order in
    let inv = c.loop-byte.invariant in
    let lead = c.run_length-lead.ensures in
    let most = lead_of_byte o c.args.stop c.in_ok-byte.byte _ lead in
    let least = c.if-lead-lt8.false in
    let sum : c.in-Some.more ≡ c.loop-byte.count + c.run_length-lead.result = search rules in
    let fetched = c.in_ok-byte.ensures.fetched in
    let turns = inv.turns in
    let before = inv.fetched in
    let turn = c.add-in-loop-byte.ensures in
    record {
      small = search rules;
      takes = all_others o c.args.stop _ _ c.loop-byte.count c.in_ok-byte.byte 8 c.in-Some.more _ (omega arith)
          (omega arith) (omega arith) (byte_waits o _ _ c.in_ok-byte.byte _ _ _ inv.takes c.in_ok-byte.ensures);
      turns = omega arith;
      fetched = omega arith;
    }
