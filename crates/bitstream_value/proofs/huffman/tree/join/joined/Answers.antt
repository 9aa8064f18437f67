use Rattle.std.proofs.Common.{◌≡◌, ◌<◌, length, ap, arith}
use Rattle.bitstream_value.specs.HuffmanTree.{nodes_of}
use Rattle.bitstream_value.proofs.NodesLemmas.{nodes_of-some, length-moved, moved-all, fits-moved}
use Rattle.bitstream_value.proofs.huffman.tree.join.joined.Goals as goal

pub moved-requires : goal.moved-requires
moved-requires g c =
    let items = c.deref-node-items.ensures.value in
    let below : c.loop-node.node-index < length (nodes_of c.args.second) = rw items at c.loop-node-test.true in
    let size = length-moved _ (nodes_of c.args.second) _ _ c.loop-node.node-index c.loop-node.invariant.nodes_are
    (omega arith) in
    let len = c.loop-node.nodes.ok in
    let small = c.loop-node.nodes.small in
    let first = c.len-len.ensures in
    fits-moved c.args.second _ c.loop-node.node-index _ (rw items at c.node-item.is) below (omega arith)

pub overflow_sub-result : goal.overflow_sub-result
overflow_sub-result g c = omega (arith, nodes_of-some c.args.first, c.loop-node.invariant.size)

pub overflow_sub-result-2 : goal.overflow_sub-result-2
overflow_sub-result-2 g c =
    let len = ap (λ ns. length ns) c.deref-node-items.ensures.value in
    let size = length-moved _ (nodes_of c.args.second) _ _ c.loop-node.node-index c.loop-node.invariant.nodes_are
    (omega arith) in
    let nodes = c.loop-node.nodes.ok in
    omega (arith, nodes_of-some c.args.first)

pub returns : goal.returns
returns g c =
    let len = ap (λ ns. length ns) c.deref-node-items.ensures.value in
    let nodes = c.loop-node.nodes.ok in
    let all : c.loop-node.node-index ≡ length (nodes_of c.args.second) = omega arith in
    let size = length-moved _ (nodes_of c.args.second) _ _ c.loop-node.node-index c.loop-node.invariant.nodes_are
    (omega arith) in
    record {
      nodes_are = moved-all _ _ _ _ _ c.loop-node.invariant.nodes_are all;
      first_ends = omega (arith, nodes_of-some c.args.first, c.loop-node.invariant.size);
      second_ends = omega (arith, nodes_of-some c.args.first, c.loop-node.invariant.size);
    }
