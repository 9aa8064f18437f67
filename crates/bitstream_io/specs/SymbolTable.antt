-- The table of a tree.
use Rattle.std.specs.Prelude.{List}
use Rattle.bitstream_value.specs.HuffmanTree.{tree_of}
use Rattle.bitstream_value.specs.Tree.{Tree}
use Rattle.bitstream_io.specs.declared.symbols.Found.{Found}
use Rattle.bitstream_io.specs.declared.symbols.SymbolTable.{SymbolTable}

-- the tree whose symbols a table finds
abbrev pub table_tree : {S A : Type 0} → SymbolTable S A → Tree S
table_tree table = tree_of table.tree.now

-- the entries of a table, one for each window
abbrev pub table_entries : {S A : Type 0} → SymbolTable S A → List (Found S)
table_entries table = table.found.items
