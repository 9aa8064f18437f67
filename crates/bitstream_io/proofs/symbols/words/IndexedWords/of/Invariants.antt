use Rattle.std.proofs.Common.{◌≡◌, length}
use Rattle.bitstream_value.specs.HuffmanTree.{tree_of}
use Rattle.bitstream_io.proofs.IndexedLemmas.{AreWords}
use Rattle.bitstream_io.proofs.symbols.words.IndexedWords.of.Given as goal

-- the code words so far are the tree's
abbrev pub invariant-loop-index : goal.invariant-loop-index
invariant-loop-index g l =
    record {
      size : length l.words.items ≡ l.index;
      right : AreWords g.S.PartialEq.eq g.S.IndexedSymbol.number (tree_of l.tree) l.words.items;
    }
