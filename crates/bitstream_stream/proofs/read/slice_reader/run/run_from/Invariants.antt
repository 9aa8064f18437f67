use Rattle.std.proofs.Common.{length, ◌≡◌, ◌≤◌, ◌+◌, ◌*◌, ◌-◌, drop}
use Rattle.bitstream_count.specs.Unary.{lead}
use Rattle.bitstream_number.specs.Word.{bits}
use Rattle.bitstream_stream.proofs.read.slice_reader.run.run_from.Given as goal

-- the bits of the bytes before `at` are counted, and are not the stop bit
abbrev pub invariant-loop-at : goal.invariant-loop-at
invariant-loop-at g l = record {
  within : l.at ≤ length l.bytes;
  run : l.first + lead l.stop (bits g.E.Endianness.order l.bytes)
      ≡ l.count + lead l.stop (bits g.E.Endianness.order (drop l.at l.bytes));
  most : l.count ≡ l.first + 8 * l.at;
}

abbrev pub decreases-loop-at : goal.decreases-loop-at
decreases-loop-at g l = length l.bytes - l.at
