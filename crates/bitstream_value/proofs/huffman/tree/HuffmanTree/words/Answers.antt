use Rattle.std.proofs.Common.{rules, ◌≡◌, ◌∙◌, ◌+◌, ◌∷◌, [], ap, length, refl, subst, sym}
use Rattle.std.specs.List.{All}
use Rattle.std.proofs.lemmas.List.{with_items_is}
use Rattle.std.proofs.lemmas.List.Elements.{All-append, All-cons, All-nil}
use Rattle.std.proofs.lemmas.List.Sorted.{All-permutation, IsNonDecreasingBy-from_sort_by_key}
use Rattle.std.specs.List.Sorted.{IsNonDecreasingBy}
use Rattle.bitstream_stream.specs.Writing.CodeWord.{code_bits}
use Rattle.bitstream_value.specs.HuffmanTree.{nodes_of, tree_of}
use Rattle.bitstream_value.specs.declared.huffman.tree.words.SymbolWord.{SymbolWord}
use Rattle.bitstream_value.proofs.NodesLemmas.{tree_of-stands}
use Rattle.bitstream_value.proofs.WordsLemmas.{HasShort, IsMade, finds-short, found-right, short-branch, short-long, short-pushed, short-sorted}
use Rattle.bitstream_value.proofs.huffman.tree.HuffmanTree.words.Goals as goal
use Rattle.bitstream_value.proofs.huffman.tree.HuffmanTree.words.Goals.{in-Leaf+in-Some+in_ok-push, in-Leaf+in_default-code_word, in_default}

pub loop-node-preserved : goal.loop-node-preserved
loop-node-preserved g c =
    let same = g.S.PartialEq.eq in
    let tree = tree_of c.args.self.now in
    let nodes = c.as_slice-node-items.result.now in
    let k = c.loop-node.node-index in
    let made = c.loop-node.made.items in
    let y = c.node-item.result in
    let law = g.met.S.Eq.laws in
    let below = c.loop-node-test.true in
    let read = c.node-item.is in
    let right = c.loop-node.invariant.right in
    let short = c.loop-node.invariant.short in
    elim c.match-node.branch [
      | in-Leaf+in-Some+in_ok-push w ↦
          let it : SymbolWord g.row.S.Denot = record { symbol = w.in-Leaf.symbol; word = w.in-Some.word } in
          let one = All-cons (IsMade same tree) it [] w.in-Some.ensures (All-nil (IsMade same tree)) in
          let more = ap (λ made. made.items) w.made-is ∙ w.in_ok-push.ensures.items in
          record {
            right = subst (All (IsMade same tree)) (sym more) (All-append (IsMade same tree) made (it ∷ []) right one);
            short = short-pushed same tree nodes law k made y below read short c.match-node.made.items it w.in-Leaf.symbol
                w.in-Leaf.is refl more;
          }
      | in-Leaf+in_default-code_word w ↦
          let same_made = ap (λ made. made.items) (sym w.made-is) in
          record {
            right = subst (All (IsMade same tree)) same_made right;
            short = subst (HasShort same tree nodes (k + 1)) same_made (short-long same tree nodes law k made y below read
                short w.in-Leaf.symbol w.in-Leaf.is w.in_default-code_word.ensures);
          }
      | in_default w ↦
          let same_made = ap (λ made. made.items) (sym w.made-is) in
          record {
            right = subst (All (IsMade same tree)) same_made right;
            short = subst (HasShort same tree nodes (k + 1)) same_made
                (short-branch same tree nodes law k made y below read short w.in_default.not-Leaf);
          }
    ]

pub returns : goal.returns
returns g c =
    let same = g.S.PartialEq.eq in
    let tree = tree_of c.args.self.now in
    let sorted = c.sort_unstable_by_key.new.self in
    let full : length sorted ≡ c.loop-node.made.len = c.sort_unstable_by_key.ensures.len
    ∙ ap (λ xs. length xs) c.as_mut_slice.ensures.value ∙ sym c.loop-node.made.ok.0 in
    let held = c.as_mut_slice.ensures.value in
    let order = c.sort_unstable_by_key.ensures.permutation in
    let before = subst (All (IsMade same tree)) (sym held) c.loop-node.invariant.right in
    let after = subst (All (IsMade same tree)) (sym (with_items_is c.loop-node.made sorted full))
    (All-permutation (IsMade same tree) _ _ order before) in
    record {
      words = λ symbol. found-right same g.met.S.Eq.laws tree symbol _ after;
      found = λ symbol w path few. finds-short same g.met.S.Eq.laws tree (nodes_of c.args.self.now)
          (tree_of-stands c.args.self.now) _ after
          (subst (HasShort same tree (nodes_of c.args.self.now) (length (nodes_of c.args.self.now)))
          (sym (with_items_is c.loop-node.made sorted full))
          (short-sorted same tree (nodes_of c.args.self.now) _ _ _ _ sorted c.as_slice-node-items.ensures.value
          c.loop-node-test.false held order c.loop-node.invariant.short)) symbol w path few;
      order = subst (IsNonDecreasingBy (λ (it : SymbolWord g.row.S.Denot). length (code_bits it.word)))
          (sym (with_items_is c.loop-node.made sorted full))
          (IsNonDecreasingBy-from_sort_by_key (λ (it : SymbolWord g.row.S.Denot). length (code_bits it.word)) sorted
          c.sort_unstable_by_key.ensures.sorted (λ a r f called. search rules));
    }
