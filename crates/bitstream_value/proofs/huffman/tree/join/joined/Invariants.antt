use Rattle.std.proofs.Common.{◌≡◌, ◌++◌, length, map, take}
use Rattle.bitstream_value.specs.Nodes.{shift_node}
use Rattle.bitstream_value.proofs.huffman.tree.join.joined.Given as goal

-- the nodes of the first tree, and those of the second so far
abbrev pub invariant-loop-node : goal.invariant-loop-node
invariant-loop-node g l = record {
  nodes_are : l.nodes.items ≡ l.fn.first.nodes.items ++ map (shift_node (length l.fn.first.nodes.items))
      (take l.node-index l.fn.second.nodes.items);
  size : l.len ≡ length l.fn.first.nodes.items;
}
