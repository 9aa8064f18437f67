-- The code words of symbols that are numbers, in an array.
use Rattle.std.specs.Prelude.{ℕ, ◌<◌, ◌≤◌, Bool, List, length, option_map, slice_get}
use Rattle.bitstream_stream.specs.Writing.CodeWord.{code_bits}
use Rattle.bitstream_stream.specs.declared.write.code_word.CodeWord.{CodeWord}
use Rattle.bitstream_value.specs.HuffmanTree.{tree_of}
use Rattle.bitstream_value.specs.SymbolWords.{or_word}
use Rattle.bitstream_value.specs.Tree.{Tree, symbol_word}
use Rattle.bitstream_io.specs.declared.symbols.words.IndexedWords.{IndexedWords}

-- the code words in the array, each at the number of its symbol
abbrev pub words_held : {S A : Type 0} → IndexedWords S A → List CodeWord
words_held words = words.words.items

-- the code word that is written for s: the one in the array, or the tree's own
abbrev pub indexed_word : {S A : Type 0} → (S → S → Bool) → (S → ℕ) → IndexedWords S A → S → List Bool
indexed_word same number words s =
    or_word (option_map code_bits (slice_get (words_held words) (number s))) (symbol_word same (tree_of words.tree.now) s)

-- each symbol whose number is at most n is in the array, if its code word and those of all symbols before it have at
-- most 63 bits
abbrev pub HoldsUpTo : {S A : Type 0} → (S → S → Bool) → (S → ℕ) → Tree S → ℕ → IndexedWords S A → Type 0
HoldsUpTo {S} same number t n words = (symbol : S) → number symbol ≤ n
    → ((before : S) → number before ≤ number symbol → length (symbol_word same t before) ≤ 63)
    → number symbol < length (words_held words)
