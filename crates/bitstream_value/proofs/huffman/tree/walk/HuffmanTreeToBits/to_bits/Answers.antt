use Rattle.std.proofs.Common.{◌≡◌, Bool, true, false, List, length, Ok, Err, refl, sym, ap, ◌∙◌, subst, arith}
use Rattle.std.proofs.lemmas.Result.{err_from_is_err_and}
use Rattle.bitstream_stream.specs.Writing.Sink.{WritesAll}
use Rattle.bitstream_stream.proofs.Writing.WriteParts.{all_none}
use Rattle.bitstream_value.specs.HuffmanTree.{nodes_of, tree_of}
use Rattle.bitstream_value.specs.Tree.{bit_by_bit}
use Rattle.bitstream_value.proofs.NodesLemmas.{tree_of-stands, nodes_of-some, word-lacks}
use Rattle.bitstream_value.proofs.WalkLemmas.{node-at, Writing-start, Writing-within, Writing-falls, goes-zero, goes-one, Writing-down, Writing-stop, Writing-end}
use Rattle.bitstream_value.proofs.huffman.tree.walk.HuffmanTreeToBits.to_bits.Goals as goal

pub returns-in_default : goal.returns-in_default
returns-in_default g c =
    let K = g.P.PutBit.sink in
    let tree = tree_of c.args.self.now in
    let nodes = c.args.self.now.nodes.ok in
    let size : c.len.result ≡ length (nodes_of c.args.self.now) = omega arith in
    let none = word-lacks g.S.PartialEq.eq c.args.symbol (nodes_of c.args.self.now) tree c.len.result
    (rw (sym size) at (tree_of-stands c.args.self.now)) c.in_default.ensures in
    record {
      writes = subst (λ (w : List Bool). WritesAll K (bit_by_bit w) c.args.put.now (Ok tt) c.args.put.now)
          (sym none) (all_none K c.args.put.now);
    }

pub loop-zero-init : goal.loop-zero-init
loop-zero-init g c =
    let nodes = c.args.self.now.nodes.ok in
    let size : c.len.result ≡ length (nodes_of c.args.self.now) = omega arith in
    Writing-start _ _ (omega (arith, nodes_of-some c.args.self.now)) (tree_of-stands c.args.self.now)
    (rw size at c.in-Some.ensures)

pub index-requires : goal.index-requires
index-requires g c = let nodes = c.args.self.now.nodes.ok in omega (arith, Writing-within c.loop-zero.invariant)

pub leaf_on_zero_side-requires : goal.leaf_on_zero_side-requires
leaf_on_zero_side-requires g c =
    let within = Writing-within c.loop-zero.invariant in
    let here = node-at (nodes_of c.args.self.now) _ _ _ within c.index.ensures c.in-Branch.is in
    let falls = Writing-falls _ _ c.loop-zero.invariant here in
    omega (arith, within, falls.0)

pub loop-zero-smaller-in-Some-leaf_on_zero_side : goal.loop-zero-smaller-in-Some-leaf_on_zero_side
loop-zero-smaller-in-Some-leaf_on_zero_side g c =
    let here = node-at (nodes_of c.args.self.now) _ _ _ (Writing-within c.loop-zero.invariant) c.index.ensures
    c.in-Branch.is in
    (Writing-falls _ _ c.loop-zero.invariant here).0

pub loop-zero-preserved-in-Some-leaf_on_zero_side : goal.loop-zero-preserved-in-Some-leaf_on_zero_side
loop-zero-preserved-in-Some-leaf_on_zero_side g c =
    let here = node-at (nodes_of c.args.self.now) _ _ _ (Writing-within c.loop-zero.invariant) c.index.ensures
    c.in-Branch.is in
    Writing-down false _ _ c.loop-zero.invariant (goes-zero _ _ _ _ c.loop-zero.invariant here
    c.leaf_on_zero_side.ensures.inside c.leaf_on_zero_side.ensures.looked c.in-Some-leaf_on_zero_side.is)
    c.in_ok-put_bit-in-Some-leaf_on_zero_side.ensures.writes

pub returns-in_err-put_bit-in-Some-leaf_on_zero_side : goal.returns-in_err-put_bit-in-Some-leaf_on_zero_side
returns-in_err-put_bit-in-Some-leaf_on_zero_side g c =
    let p = err_from_is_err_and c.from_residual.result c.from_residual.ensures.1 in
    let here = node-at (nodes_of c.args.self.now) _ _ _ (Writing-within c.loop-zero.invariant) c.index.ensures
    c.in-Branch.is in
    record {
      writes = Writing-stop false _ _ _ c.loop-zero.invariant
          (goes-zero _ _ _ _ c.loop-zero.invariant here c.leaf_on_zero_side.ensures.inside
          c.leaf_on_zero_side.ensures.looked c.in-Some-leaf_on_zero_side.is) (p.1
          ∙ ap Err p.2) c.in_err-put_bit-in-Some-leaf_on_zero_side.ensures.writes;
    }

pub loop-zero-smaller : goal.loop-zero-smaller
loop-zero-smaller g c =
    let here = node-at (nodes_of c.args.self.now) _ _ _ (Writing-within c.loop-zero.invariant) c.index.ensures
    c.in-Branch.is in
    (Writing-falls _ _ c.loop-zero.invariant here).1

pub loop-zero-preserved : goal.loop-zero-preserved
loop-zero-preserved g c =
    let here = node-at (nodes_of c.args.self.now) _ _ _ (Writing-within c.loop-zero.invariant) c.index.ensures
    c.in-Branch.is in
    Writing-down true _ _ c.loop-zero.invariant (goes-one _ _ _ c.loop-zero.invariant here
    c.leaf_on_zero_side.ensures.inside c.leaf_on_zero_side.ensures.looked c.in-None.is)
    c.in_ok-put_bit-in-None.ensures.writes

pub returns-in_err-put_bit-in-None : goal.returns-in_err-put_bit-in-None
returns-in_err-put_bit-in-None g c =
    let p = err_from_is_err_and c.from_residual-in_err-put_bit-in-None.result
    c.from_residual-in_err-put_bit-in-None.ensures.1 in
    let here = node-at (nodes_of c.args.self.now) _ _ _ (Writing-within c.loop-zero.invariant) c.index.ensures
    c.in-Branch.is in
    record {
      writes = Writing-stop true _ _ _ c.loop-zero.invariant
          (goes-one _ _ _ c.loop-zero.invariant here c.leaf_on_zero_side.ensures.inside
          c.leaf_on_zero_side.ensures.looked
          c.in-None.is) (p.1 ∙ ap Err p.2) c.in_err-put_bit-in-None.ensures.writes;
    }

pub returns : goal.returns
returns g c =
    let here = node-at (nodes_of c.args.self.now) _ _ c.index.result.now (Writing-within c.loop-zero.invariant)
    c.index.ensures refl in
    record { writes = Writing-end c.index.result.now c.loop-zero.invariant here c.in_default-index.not-Branch }
