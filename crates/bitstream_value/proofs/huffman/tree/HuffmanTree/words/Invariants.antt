use Rattle.std.specs.List.{All}
use Rattle.bitstream_value.specs.HuffmanTree.{tree_of}
use Rattle.bitstream_value.proofs.WordsLemmas.{IsMade, HasShort}
use Rattle.bitstream_value.proofs.huffman.tree.HuffmanTree.words.Given as goal

-- the code words so far are the tree's, and each short one is there
abbrev pub invariant-loop-node : goal.invariant-loop-node
invariant-loop-node g l =
    record {
      right : All (IsMade g.S.PartialEq.eq (tree_of l.self)) l.made.items;
      short : HasShort g.S.PartialEq.eq (tree_of l.self) l.node-items l.node-index l.made.items;
    }
