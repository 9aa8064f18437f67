use Rattle.std.proofs.Common.{◌≡◌, [], ◌∷◌}
use Rattle.bitstream_value.specs.Tree.{leaf}
use Rattle.bitstream_value.specs.declared.huffman.tree.Node.TheVariants.{Leaf}
use Rattle.bitstream_value.proofs.NodesLemmas.{stands-leaf, stands-has_tree, stands-tree_of}
use Rattle.bitstream_value.proofs.huffman.tree.HuffmanTree.leaf.Goals as goal

pub invariant_of-result : goal.invariant_of-result
invariant_of-result g c =
    let items : c.push.new.self.items ≡ Leaf c.args.symbol ∷ [] =
    rw c.new-nodes.ensures.items at c.in_ok-push.ensures.items in
    record { has_tree = stands-has_tree _ (leaf c.args.symbol) (stands-leaf _ _ items) }

pub returns : goal.returns
returns g c =
    let items : c.push.new.self.items ≡ Leaf c.args.symbol ∷ [] =
    rw c.new-nodes.ensures.items at c.in_ok-push.ensures.items in
    record { tree = stands-tree_of _ (leaf c.args.symbol) (stands-leaf _ _ items) }
