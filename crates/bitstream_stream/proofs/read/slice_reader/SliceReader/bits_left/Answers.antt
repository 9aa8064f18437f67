use Rattle.std.proofs.Math.Nat.{min-eq_left, min-le_left}
use Rattle.std.proofs.Common.{◌∙◌, ◌≡◌, ◌≤◌, ◌<◌, ◌^◌, arith}
use Rattle.bitstream_stream.proofs.Reading.MemoryLemmas.{left_known, left_of_all}
use Rattle.bitstream_stream.proofs.read.slice_reader.SliceReader.bits_left.Goals as goal

pub returns-clause-most : goal.returns-clause-most
returns-clause-most g c = λ fine.
    left_known g.E.Endianness.order c.args.self.now (λ n. c.capped.result ≤ n) fine
    (rw c.capped.ensures (min-le_left _ _))

pub returns-clause-exact : goal.returns-clause-exact
returns-clause-exact g c = λ fine.
    left_known g.E.Endianness.order c.args.self.now (λ n. n < 2 ^ 64 → c.capped.result ≡ n) fine
    (λ below. c.capped.ensures ∙ min-eq_left (omega (arith, below)))

pub returns-clause-all : goal.returns-clause-all
returns-clause-all g c =
    rw (left_of_all c.args.self.now.all.now c.args.self.now.bytes.now c.args.self.now.bit c.args.self.now.tail)
    c.capped.ensures
