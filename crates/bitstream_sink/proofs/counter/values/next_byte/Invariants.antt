use Rattle.std.proofs.Common.{◌≡◌, ◌+◌, ◌≤◌}
use Rattle.bitstream_stream.specs.Alignment.{to_boundary}
use Rattle.bitstream_sink.proofs.counter.values.next_byte.Given as goal

-- the same multiple of 8 comes next
abbrev pub invariant-loop-next : goal.invariant-loop-next
invariant-loop-next g l =
    let value = g.N.Counter.value in
    record {
      same : value l.next + to_boundary (value l.next) ≡ value l.fn.value + to_boundary (value l.fn.value);
      within : value l.next ≤ g.N.Counter.greatest;
    }

abbrev pub decreases-loop-next : goal.decreases-loop-next
decreases-loop-next g l = to_boundary (g.N.Counter.value l.next)
