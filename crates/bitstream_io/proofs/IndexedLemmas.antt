-- Code words in an array, each at the number of its symbol.
use Rattle.std.specs.Prelude.{option_map, slice_get}
use Rattle.std.proofs.Common.{◌≡◌, ◌⊎◌, ℕ, zero, suc, ◌<◌, ◌≤◌, Bool, List, [], ◌∷◌, ◌++◌, length, Option, Some, None, refl, sym, ap, ◌∙◌, arith, inl, inr}
use Rattle.std.proofs.lemmas.Bool.{cases_lt}
use Rattle.bitstream_stream.specs.Writing.CodeWord.{code_bits}
use Rattle.bitstream_stream.specs.declared.write.code_word.CodeWord.{CodeWord}
use Rattle.bitstream_value.specs.SymbolWords.{or_word}
use Rattle.bitstream_value.specs.Tree.{Tree, symbol_word}

-- each code word is the tree's, of the symbol whose number is its place
abbrev pub AreWords : {S : Type 0} → (S → S → Bool) → (S → ℕ) → Tree S → List CodeWord → Type 0
AreWords {S} same number t words = (s : S) (word : CodeWord) → slice_get words (number s) ≡ Some word
    → code_bits word ≡ symbol_word same t s

got-more : (xs : List CodeWord) (x : CodeWord) (k : ℕ) (y : CodeWord) → slice_get (xs ++ x ∷ []) k ≡ Some y
    → (slice_get xs k ≡ Some y) ⊎ ((k ≡ length xs) × (x ≡ y))
got-more [] x zero y e = inr (refl, cc)
got-more [] x (suc k) y e = absurd cc
got-more (z ∷ xs) x zero y e = inl e
got-more (z ∷ xs) x (suc k) y e = elim (got-more xs x k y e) [
  | inl before ↦ inl before
  | inr last ↦ let place = last.0 in inr (omega arith, last.1)
]

module _ {S : Type 0} (same : S → S → Bool) (number : S → ℕ) (t : Tree S) where
  pub words-none : AreWords same number t []
  words-none s word e = absurd cc

  -- one code word more
  pub words-more : ((a b : S) → number a ≡ number b → a ≡ b) → (xs : List CodeWord) (x : CodeWord) (symbol : S)
      → AreWords same number t xs → number symbol ≡ length xs → code_bits x ≡ symbol_word same t symbol
      → AreWords same number t (xs ++ x ∷ [])
  words-more law xs x symbol all place is s word e = elim (got-more xs x (number s) word e) [
    | inl before ↦ all s word before
    | inr last ↦
        let symbol_is : symbol ≡ s = law symbol s (place ∙ sym last.0) in
        ap code_bits (sym last.1) ∙ is ∙ ap (λ (a : S). symbol_word same t a) symbol_is
  ]

  word-case : (words : List CodeWord) (s : S) (o : Option CodeWord) → slice_get words (number s) ≡ o
      → AreWords same number t words → or_word (option_map code_bits o) (symbol_word same t s) ≡ symbol_word same t s
  word-case words s None is all = refl
  word-case words s (Some word) is all = all s word is

  -- the code word of each symbol is the tree's
  pub word-right : (words : List CodeWord) (s : S) → AreWords same number t words
      → or_word (option_map code_bits (slice_get words (number s))) (symbol_word same t s) ≡ symbol_word same t s
  word-right words s all = word-case words s (slice_get words (number s)) refl all

  -- a symbol whose code word is too long is not before one in the array
  pub held-before : (k : ℕ) (long symbol : S) → number long ≡ k → 63 < length (symbol_word same t long)
      → ((before : S) → number before ≤ number symbol → length (symbol_word same t before) ≤ 63) → number symbol < k
  held-before k long symbol place many few = elim (cases_lt (number symbol) k) [
    | inl less ↦ less
    | inr more ↦
        let size = few long (omega (arith, place, more)) in
        absurd (omega (arith, size, many))
  ]
