-- The tree that nodes represent. A tree has a value: so a lemma is imported.
use Rattle.std.specs.Prelude.{◌≡◌, true, List, Option, Some, None, is_some}
use Rattle.std.proofs.lemmas.Bool.{false≢true}
use Rattle.bitstream_value.specs.Nodes.{nodes_tree}
use Rattle.bitstream_value.specs.Tree.{Tree}
use Rattle.bitstream_value.specs.declared.huffman.tree.HuffmanTree.{HuffmanTree}
use Rattle.bitstream_value.specs.declared.huffman.tree.Node.{Node}

-- a value that is not `None`
abbrev pub value_of : {T : Type 0} → (o : Option T) → is_some o ≡ true → T
value_of None there = absurd (false≢true there)
value_of (Some x) there = x

-- the nodes of a tree, in the order of memory
abbrev pub nodes_of : {S A : Type 0} → HuffmanTree S A → List (Node S)
nodes_of code = code.nodes.items

-- the tree that the nodes represent
unfoldable pub tree_of : {S A : Type 0} → HuffmanTree S A → Tree S
tree_of code = value_of (nodes_tree (nodes_of code)) code.has_tree
