use Rattle.std.proofs.Common.{length, ◌≡◌, ◌≤◌, ◌+◌, ◌*◌, ◌-◌, drop}
use Rattle.bitstream_count.specs.Unary.{lead}
use Rattle.bitstream_number.specs.Word.{bits}
use Rattle.bitstream_stream.proofs.read.slice_reader.run.bytes_without.Given as goal

-- the bytes before `at` have no stop bit
abbrev pub invariant-loop-at : goal.invariant-loop-at
invariant-loop-at g l = record {
  within : l.at ≤ length l.bytes;
  run : lead l.stop (bits g.E.Endianness.order l.bytes)
      ≡ 8 * l.at + lead l.stop (bits g.E.Endianness.order (drop l.at l.bytes));
}

abbrev pub decreases-loop-at : goal.decreases-loop-at
decreases-loop-at g l = length l.bytes - l.at
