use Rattle.std.proofs.Common.{◌+◌, ◌∷◌, [], ◌∙◌, ap, length, length-append, subst, sym}
use Rattle.bitstream_value.specs.HuffmanTree.{tree_of}
use Rattle.bitstream_io.specs.Windows.{Finds, FindsAll, window_word}
use Rattle.bitstream_io.proofs.WindowLemmas.{finds-more, finds-nothing}
use Rattle.bitstream_io.proofs.symbols.SymbolTable.of.Goals as goal

pub loop-index-init : goal.loop-index-init
loop-index-init g c =
    let t = tree_of c.args.tree.now in
    record {
      size = ap (λ l. length l) c.new-found.ensures.items;
      right = subst (FindsAll t) (sym c.new-found.ensures.items) (finds-nothing t);
    }

pub loop-index-preserved : goal.loop-index-preserved
loop-index-preserved g c =
    let t = tree_of c.args.tree.now in
    let xs = c.loop-index.found.items in
    let f = c.entry_at.result in
    let grown = c.in_ok-push.ensures.items in
    let size = c.loop-index.invariant.size in
    let here = subst (λ i. Finds t (window_word i) f) (sym size) c.entry_at.ensures in
    record {
      size = ap (λ l. length l) grown ∙ length-append xs (f ∷ []) ∙ ap (λ n. n + 1) size;
      right = subst (FindsAll t) (sym grown) (finds-more t xs f c.loop-index.invariant.right here);
    }
