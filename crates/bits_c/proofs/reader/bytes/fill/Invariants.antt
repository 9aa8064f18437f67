use Rattle.std.proofs.Common.{◌≡◌, ◌*◌, take, drop}
use Rattle.bitstream_io.specs.Callers.{bits}
use Rattle.bits_c.proofs.reader.bytes.fill.Given as goal

-- the bytes up to a place were read
abbrev pub invariant-loop-k : goal.invariant-loop-k
invariant-loop-k g l =
    let o = g.O.Endianness.order in
    bits o (take l.k l.buffer) ≡ take (8 * l.k) (drop l.at (bits o l.bytes))
