use Rattle.bitstream_value.proofs.LimitedLemmas.{Repeating}
use Rattle.bitstream_value.proofs.huffman.limited_unary.repeat.Given as goal

abbrev pub invariant-loop : goal.invariant-loop
invariant-loop g l = Repeating g.P.PutBit.sink l.one l.times l.initial.put l.counter l.put
