use Rattle.std.proofs.Common.{ℕ, ◌<◌, ◌≤◌}
use Rattle.bitstream_value.specs.HuffmanTree.{nodes_of}
use Rattle.bitstream_value.specs.Nodes.{HasSymbol}
use Rattle.bitstream_value.proofs.huffman.tree.HuffmanTree.find.Given as goal

-- no place so far has the symbol
abbrev pub invariant-loop-place : goal.invariant-loop-place
invariant-loop-place g l = (k : ℕ) → l.low ≤ k → k < l.place → HasSymbol g.S.PartialEq.eq l.symbol (nodes_of l.self) k
    → ⊥
