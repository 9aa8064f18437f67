use Rattle.std.proofs.Common.{◌≡◌, length}
use Rattle.bitstream_value.specs.HuffmanTree.{tree_of}
use Rattle.bitstream_io.specs.Windows.{FindsAll}
use Rattle.bitstream_io.proofs.symbols.SymbolTable.of.Given as goal

-- the entries so far are right
abbrev pub invariant-loop-index : goal.invariant-loop-index
invariant-loop-index g l =
    record {
      size : length l.found.items ≡ l.index;
      right : FindsAll (tree_of l.tree) l.found.items;
    }
