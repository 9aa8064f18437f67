use Rattle.bitstream_value.proofs.LimitedLemmas.{Counting}
use Rattle.bitstream_value.proofs.huffman.limited_unary.LimitedUnaryFromBits.from_bits.Given as goal

abbrev pub invariant-loop-digits : goal.invariant-loop-digits
invariant-loop-digits g l = Counting g.N.NextBit.source l.stop g.row.MAXIMUM l.initial.next l.digits l.next
