-- The precomputed code words of a tree's symbols.
use Rattle.std.specs.Prelude.{◌≡◌, Bool, false, List, [], ◌∷◌, ◌++◌, length, ◌≤◌, Option, None, Some, if◌then◌else◌}
use Rattle.std.specs.List.Sorted.{IsNonDecreasingBy}
use Rattle.std.proofs.Common.{sym, ap, ◌∙◌, refl, append-nil, append_assoc, length-append}
use Rattle.bitstream_number.specs.Word.{High}
use Rattle.bitstream_stream.specs.Writing.CodeWord.{code_bits}
use Rattle.bitstream_stream.specs.Writing.Sink.{Sink}
use Rattle.bitstream_stream.proofs.Writing.CodeWordLemmas.{code_bits-most}
use Rattle.bitstream_value.specs.HuffmanTree.{tree_of}
use Rattle.bitstream_value.specs.Tree.{Tree, first_path, symbol_word}
use Rattle.bitstream_value.specs.declared.huffman.tree.words.Gathered.{Gathered}
use Rattle.bitstream_value.specs.declared.huffman.tree.words.SymbolWord.{SymbolWord}
use Rattle.bitstream_value.specs.declared.huffman.tree.words.SymbolWords.{SymbolWords}

-- the bits of a path so far
abbrev pub gathered_bits : Gathered → List Bool
gathered_bits it = code_bits it.word

-- a path so far as a sink, which has room for 63 bits and keeps them
abbrev pub gathered_sink : Sink Gathered
gathered_sink = record {
  order = High;
  appends = λ a x b. gathered_bits b ≡ gathered_bits a ++ x;
  contents = λ _. None;
  fills = λ _ _ _. ⊥;
  len = λ a. length (gathered_bits a);
  limit = Some 63;
  failed = λ _. false;
  refusals = λ _. [];
  may = λ _. ⊥;
  references = λ _. [];
  appends_nil = λ a. sym (append-nil (gathered_bits a));
  appends_trans = λ a b c x y p q. q ∙ ap (λ (w : List Bool). w ++ y) p ∙ append_assoc (gathered_bits a) x y;
  fills_behind = λ a b x y known p q. q;
  within = λ a. code_bits-most a.word;
  appends_len = λ a b x p. ap (λ (w : List Bool). length w) p ∙ length-append (gathered_bits a) x;
  limit_full = (8, refl);
}

-- the precomputed code words, with their symbols
abbrev pub words_made : {S A : Type 0} → SymbolWords S A → List (SymbolWord S)
words_made words = words.made.items

-- the code word of the first of these symbols that is the same as s
abbrev pub found_word : {S : Type 0} → (S → S → Bool) → List (SymbolWord S) → S → Option (List Bool)
found_word same [] s = None
found_word same (it ∷ others) s = if same it.symbol s then Some (code_bits it.word) else found_word same others s

-- the code word that was found, or another one
abbrev pub or_word : Option (List Bool) → List Bool → List Bool
or_word None other = other
or_word (Some w) other = w

-- the code word that is written for s: the precomputed one, or the tree's own
abbrev pub made_word : {S A : Type 0} → (S → S → Bool) → SymbolWords S A → S → List Bool
made_word same words s = or_word (found_word same (words_made words) s) (symbol_word same (tree_of words.tree.now) s)

-- each symbol of the tree whose code word has at most 63 bits is found among the precomputed code words
abbrev pub FindsShort : {S A : Type 0} → (S → S → Bool) → Tree S → SymbolWords S A → Type 0
FindsShort {S} same tree words = (symbol : S) (w : List Bool) → first_path same tree symbol ≡ Some w → length w ≤ 63
    → found_word same (words_made words) symbol ≡ Some w

-- the precomputed code words are searched from the shortest on
abbrev pub ShortestFirst : {S A : Type 0} → SymbolWords S A → Type 0
ShortestFirst {S} words = IsNonDecreasingBy (λ (it : SymbolWord S). length (code_bits it.word)) (words_made words)
