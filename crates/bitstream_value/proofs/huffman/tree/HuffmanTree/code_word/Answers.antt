use Rattle.std.proofs.Common.{◌∙◌, ◌++◌, ap, arith, length, List, Bool}
use Rattle.bitstream_value.specs.HuffmanTree.{tree_of}
use Rattle.bitstream_value.specs.Tree.{symbol_word}
use Rattle.bitstream_value.proofs.WordsLemmas.{all-behind, too-long}
use Rattle.bitstream_value.proofs.huffman.tree.HuffmanTree.code_word.Goals as goal

pub returns-in-Ok : goal.returns-in-Ok
returns-in-Ok g c =
    let w = symbol_word g.S.PartialEq.eq (tree_of c.args.self.now) c.args.symbol in
    all-behind w _ c.to_bits.new.put c.in-Ok.ensures.writes ∙ ap (λ (prefix : List Bool). prefix ++ w) c.new.ensures

pub returns-in-Err : goal.returns-in-Err
returns-in-Err g c =
    let w = symbol_word g.S.PartialEq.eq (tree_of c.args.self.now) c.args.symbol in
    let long = too-long w _ c.to_bits.new.put _ c.in-Err.ensures.writes in
    let none = ap (λ (u : List Bool). length u) c.new.ensures in
    omega (arith, long, none)
