use Rattle.bitstream_value.specs.HuffmanTree.{nodes_of, tree_of}
use Rattle.bitstream_value.proofs.WalkLemmas.{Reading}
use Rattle.bitstream_value.proofs.huffman.tree.walk.HuffmanTreeFromBits.from_bits.Given as goal

abbrev pub invariant-loop-symbol : goal.invariant-loop-symbol
invariant-loop-symbol g l = Reading g.N.NextBit.source (nodes_of l.self) (tree_of l.self) l.initial.next l.root l.next

abbrev pub decreases-loop-symbol : goal.decreases-loop-symbol
decreases-loop-symbol g l = l.root
