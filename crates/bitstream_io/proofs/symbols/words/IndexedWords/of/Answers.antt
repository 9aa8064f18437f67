use Rattle.std.proofs.Common.{◌+◌, ◌∷◌, [], ◌∙◌, ap, arith, length, length-append, subst, sym}
use Rattle.bitstream_value.specs.HuffmanTree.{tree_of}
use Rattle.bitstream_io.proofs.IndexedLemmas.{AreWords, held-before, word-right, words-more, words-none}
use Rattle.bitstream_io.proofs.symbols.words.IndexedWords.of.Goals as goal

pub loop-index-init : goal.loop-index-init
loop-index-init g c =
    let same = g.S.PartialEq.eq in
    let number = g.S.IndexedSymbol.number in
    let t = tree_of c.args.tree.now in
    record {
      size = ap (λ l. length l) c.new-words.ensures.items;
      right = subst (AreWords same number t) (sym c.new-words.ensures.items) (words-none same number t);
    }

pub loop-index-preserved : goal.loop-index-preserved
loop-index-preserved g c =
    let same = g.S.PartialEq.eq in
    let number = g.S.IndexedSymbol.number in
    let t = tree_of c.args.tree.now in
    let xs = c.loop-index.words.items in
    let x = c.in-Some.word in
    let grown = c.in_ok-push-in-Some.ensures.items in
    let size = c.loop-index.invariant.size in
    record {
      size = ap (λ l. length l) grown ∙ length-append xs (x ∷ []) ∙ ap (λ n. n + 1) size;
      right = subst (AreWords same number t) (sym grown)
          (words-more same number t g.met.S.IndexedSymbol.number_law xs x c.with_index.result
          c.loop-index.invariant.right (c.with_index.ensures ∙ sym size) c.in-Some.ensures);
    }

pub returns-in-None : goal.returns-in-None
returns-in-None g c =
    let same = g.S.PartialEq.eq in
    let number = g.S.IndexedSymbol.number in
    let t = tree_of c.args.tree.now in
    let words = c.loop-index.words.items in
    record {
      words = λ symbol. word-right same number t words symbol c.loop-index.invariant.right;
      found = λ symbol below few.
          held-before same number t (length words) c.with_index.result symbol
          (c.with_index.ensures ∙ sym c.loop-index.invariant.size) c.in-None.ensures few;
    }

pub returns : goal.returns
returns g c =
    let same = g.S.PartialEq.eq in
    let number = g.S.IndexedSymbol.number in
    let t = tree_of c.args.tree.now in
    let words = c.loop-index.words.items in
    record {
      words = λ symbol. word-right same number t words symbol c.loop-index.invariant.right;
      found = λ symbol below few.
          omega (arith, below, c.loop-index.invariant.size, c.loop-index-test.false, c.to_index-index-end.ensures.number);
    }
