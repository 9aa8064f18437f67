use Rattle.std.proofs.Common.{◌≡◌, drop}
use Rattle.bitstream_value.specs.SymbolWords.{found_word, words_made}
use Rattle.bitstream_value.proofs.huffman.tree.words.SymbolWords.find.Given as goal

-- no symbol so far is the same
abbrev pub invariant-loop-it : goal.invariant-loop-it
invariant-loop-it g l =
    found_word g.S.PartialEq.eq (words_made l.self) l.symbol
    ≡ found_word g.S.PartialEq.eq (drop l.it-index (words_made l.self)) l.symbol
