use Rattle.std.proofs.Common.{◌≡◌, ◌-◌, ◌≤◌, take}
use Rattle.bitstream_io.specs.Callers.{bits, word}
use Rattle.bits_c.specs.Writer.{replaced}
use Rattle.bits_c.proofs.writer.put.Given as goal

-- the first bits of the word are in their place
abbrev pub invariant-loop-done : goal.invariant-loop-done
invariant-loop-done g l =
    let o = g.O.Endianness.order in
    record {
      most : l.done ≤ l.width;
      put : bits o l.bytes ≡ replaced l.at (take l.done (word o l.width l.value)) (bits o l.fn.bytes);
    }

abbrev pub decreases-loop-done : goal.decreases-loop-done
decreases-loop-done g l = l.width - l.done
