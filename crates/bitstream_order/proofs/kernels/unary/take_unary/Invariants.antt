use Rattle.std.proofs.Common.{◌≡◌, ◌+◌, ◌-◌, ◌^◌, ◌<◌, ◌≤◌, [], not, replicate}
use Rattle.bitstream_number.specs.Word.{word}
use Rattle.bitstream_order.specs.Parts.{first_part}
use Rattle.bitstream_order.specs.Port.{source_state, fetched_count}
use Rattle.bitstream_order.specs.Moving.TakeUnary.{TakesBetween}
use Rattle.bitstream_order.proofs.kernels.unary.take_unary.Given as goal

-- the bits so far, none of which is the stop bit, and no bit is queued; there was a turn for each byte fetched, and one
-- before
abbrev pub invariant-loop-byte : goal.invariant-loop-byte
invariant-loop-byte g l =
    let o = g.E.Endianness.order in
    let first = source_state g.S.Source.stream l.fn.port in
    let now = source_state g.S.Source.stream l.port in
    record {
      small : l.count < 2 ^ 32;
      takes : TakesBetween o (word o l.queued (first_part o l.queue 8 l.queued)) first (replicate l.count (not l.stop))
          [] now;
      turns : l.turns.count + fetched_count l.fn.port ≡ l.fn.turns.count + fetched_count l.port + 1;
      fetched : fetched_count l.fn.port ≤ fetched_count l.port;
    }

abbrev pub decreases-loop-byte : goal.decreases-loop-byte
decreases-loop-byte g l = 2 ^ 32 - l.count
