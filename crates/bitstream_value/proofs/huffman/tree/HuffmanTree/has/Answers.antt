use Rattle.bitstream_value.specs.HuffmanTree.{nodes_of}
use Rattle.bitstream_value.proofs.WalkLemmas.{node-at, has-leaf, has-branch}
use Rattle.bitstream_value.proofs.huffman.tree.HuffmanTree.has.Goals as goal

pub returns-in-Leaf : goal.returns-in-Leaf
returns-in-Leaf g c = has-leaf g.S.PartialEq.eq c.args.symbol (nodes_of c.args.self.now) c.args.place _
    (node-at (nodes_of c.args.self.now) _ _ _ c.requires c.index.ensures c.in-Leaf.is) c.eq.ensures

pub returns-in-Branch : goal.returns-in-Branch
returns-in-Branch g c = has-branch g.S.PartialEq.eq c.args.symbol (nodes_of c.args.self.now) c.args.place _
    (node-at (nodes_of c.args.self.now) _ _ _ c.requires c.index.ensures c.in-Branch.is)
