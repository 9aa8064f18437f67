use Rattle.bitstream_value.specs.HuffmanTree.{nodes_of, tree_of}
use Rattle.bitstream_value.proofs.WalkLemmas.{Writing}
use Rattle.bitstream_value.proofs.huffman.tree.walk.HuffmanTreeToBits.to_bits.Given as goal

abbrev pub invariant-loop-zero : goal.invariant-loop-zero
invariant-loop-zero g l = Writing g.P.PutBit.sink g.S.PartialEq.eq l.symbol (nodes_of l.self) (tree_of l.self)
    l.initial.put l.root l.leaf l.put

abbrev pub decreases-loop-zero : goal.decreases-loop-zero
decreases-loop-zero g l = l.root
