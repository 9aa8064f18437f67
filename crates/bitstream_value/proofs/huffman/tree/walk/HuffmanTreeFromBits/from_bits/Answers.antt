use Rattle.std.proofs.Common.{arith}
use Rattle.bitstream_value.specs.HuffmanTree.{nodes_of}
use Rattle.bitstream_value.proofs.NodesLemmas.{tree_of-stands, nodes_of-some}
use Rattle.bitstream_value.proofs.WalkLemmas.{node-at, Reading-start, Reading-within, Reading-falls, Reading-zero, Reading-one, Reading-done, Reading-stop}
use Rattle.bitstream_value.proofs.huffman.tree.walk.HuffmanTreeFromBits.from_bits.Goals as goal

pub overflow_sub-root : goal.overflow_sub-root
overflow_sub-root g c = let nodes = c.args.self.now.nodes.ok in omega (arith, nodes_of-some c.args.self.now)

pub loop-symbol-init : goal.loop-symbol-init
loop-symbol-init g c = let nodes = c.args.self.now.nodes.ok in
    Reading-start _ (omega (arith, nodes_of-some c.args.self.now)) (tree_of-stands c.args.self.now)

pub index-requires : goal.index-requires
index-requires g c = let nodes = c.args.self.now.nodes.ok in omega (arith, Reading-within c.loop-symbol.invariant)

pub returns-in-Leaf : goal.returns-in-Leaf
returns-in-Leaf g c =
    let here = node-at (nodes_of c.args.self.now) _ _ _ (Reading-within c.loop-symbol.invariant) c.index.ensures
    c.in-Leaf.is in
    record { reads = Reading-done _ c.loop-symbol.invariant here }

pub returns-in_err-next_bit-in-Branch : goal.returns-in_err-next_bit-in-Branch
returns-in_err-next_bit-in-Branch g c =
    let here = node-at (nodes_of c.args.self.now) _ _ _ (Reading-within c.loop-symbol.invariant) c.index.ensures
    c.in-Branch.is in
    record {
      reads = Reading-stop _ _ c.from_residual.result c.loop-symbol.invariant here c.from_residual.ensures.1
          c.in_err-next_bit-in-Branch.ensures.reads;
    }

pub loop-symbol-smaller-then-branch : goal.loop-symbol-smaller-then-branch
loop-symbol-smaller-then-branch g c =
    let here = node-at (nodes_of c.args.self.now) _ _ _ (Reading-within c.loop-symbol.invariant) c.index.ensures
    c.in-Branch.is in
    (Reading-falls _ _ c.loop-symbol.invariant here).1

pub loop-symbol-preserved-then-branch : goal.loop-symbol-preserved-then-branch
loop-symbol-preserved-then-branch g c =
    let here = node-at (nodes_of c.args.self.now) _ _ _ (Reading-within c.loop-symbol.invariant) c.index.ensures
    c.in-Branch.is in
    Reading-one _ _ c.loop-symbol.invariant here (rw c.if-branch.true at c.in_ok-next_bit-in-Branch.ensures.reads)

pub loop-symbol-smaller : goal.loop-symbol-smaller
loop-symbol-smaller g c =
    let here = node-at (nodes_of c.args.self.now) _ _ _ (Reading-within c.loop-symbol.invariant) c.index.ensures
    c.in-Branch.is in
    (Reading-falls _ _ c.loop-symbol.invariant here).0

pub loop-symbol-preserved : goal.loop-symbol-preserved
loop-symbol-preserved g c =
    let here = node-at (nodes_of c.args.self.now) _ _ _ (Reading-within c.loop-symbol.invariant) c.index.ensures
    c.in-Branch.is in
    Reading-zero _ _ c.loop-symbol.invariant here (rw c.if-branch.false at c.in_ok-next_bit-in-Branch.ensures.reads)
