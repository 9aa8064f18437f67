use Rattle.bitstream_value.specs.HuffmanTree.{tree_of}
use Rattle.bitstream_value.specs.Tree.{node}
use Rattle.bitstream_value.proofs.NodesLemmas.{joined-zero, joined-one, stands-has_tree, stands-tree_of}
use Rattle.bitstream_value.proofs.huffman.tree.HuffmanTree.node.Goals as goal

pub invariant_of-result : goal.invariant_of-result
invariant_of-result g c =
    let zero = c.args.zero in
    let one = c.args.one in
    record {
      has_tree = stands-has_tree _ (node (tree_of zero) (tree_of one))
          (joined-zero zero one _ _ _ c.in_ok-nodes.ensures _ c.in_ok-push.ensures.items);
    }

pub returns-in_ok-push : goal.returns-in_ok-push
returns-in_ok-push g c =
    let zero = c.args.zero in
    let one = c.args.one in
    record {
      tree = stands-tree_of _ (node (tree_of zero) (tree_of one))
          (joined-zero zero one _ _ _ c.in_ok-nodes.ensures _ c.in_ok-push.ensures.items);
    }

pub invariant_of-result-else-len : goal.invariant_of-result-else-len
invariant_of-result-else-len g c =
    let zero = c.args.zero in
    let one = c.args.one in
    record {
      has_tree = stands-has_tree _ (node (tree_of zero) (tree_of one))
          (joined-one one zero _ _ _ c.in_ok-nodes-2.ensures _ c.in_ok-push-2.ensures.items);
    }

pub returns-in_ok-push-2 : goal.returns-in_ok-push-2
returns-in_ok-push-2 g c =
    let zero = c.args.zero in
    let one = c.args.one in
    record {
      tree = stands-tree_of _ (node (tree_of zero) (tree_of one))
          (joined-one one zero _ _ _ c.in_ok-nodes-2.ensures _ c.in_ok-push-2.ensures.items);
    }
