-- Code words that are put together bit by bit, and found by their symbols.
use Rattle.std.proofs.Common.{subst, length-append, ◌≡◌, ℕ, ◌+◌, ◌-◌, ◌<◌, ◌≤◌, ◌≢◌, Bool, true, false, List, [], ◌∷◌, ◌++◌, length, drop, get_or, Option, Some, None, Ok, Err, refl, sym, ap, ◌∙◌, arith, append-nil, append_assoc, add-one, inl, inr}
use Rattle.std.specs.Prelude.{if◌then◌else◌, slice_get}
use Rattle.std.specs.Cmp.{IsEquivalence}
use Rattle.std.specs.List.{All, AllByRecursion}
use Rattle.std.specs.List.Sorted.{IsPermutation}
use Rattle.std.proofs.lemmas.Bool.{cases_lt}
use Rattle.std.proofs.lemmas.List.Sorted.{All-permutation, IsPermutation-sym}
use Rattle.bitstream_value.proofs.WalkLemmas.{node-at}
use Rattle.std.proofs.Math.Seq.{drop-cons}
use Rattle.std.proofs.lemmas.List.{drop_all}
use Rattle.std.proofs.lemmas.List.Elements.{All-cons, All-head, All-nil, All-tail, All-weaker, recursion_from_All}
use Rattle.bitstream_count.specs.declared.error.Error.{Error}
use Rattle.bitstream_count.specs.declared.error.Error.TheVariants.{CounterOverflow}
use Rattle.bitstream_stream.specs.Writing.CodeWord.{code_bits}
use Rattle.bitstream_stream.proofs.Writing.CodeWordLemmas.{code_bits-most}
use Rattle.bitstream_stream.specs.Writing.Sink.{Writes, WritesAll, had_failed, was_rejected, past_limit, was_refused, was_done}
use Rattle.bitstream_stream.specs.Writing.WriteTable.{bit}
use Rattle.bitstream_value.specs.SymbolWords.{gathered_bits, gathered_sink, found_word, or_word}
use Rattle.bitstream_value.specs.Tree.{Tree, leaf, node, bit_by_bit, first_path, symbol_word, or_nothing}
use Rattle.bitstream_value.proofs.NodesLemmas.{Stands, path-lacks}
use Rattle.bitstream_value.proofs.TreeLemmas.{word-some}
use Rattle.bitstream_value.specs.declared.huffman.tree.Node.{Node}
use Rattle.bitstream_value.specs.declared.huffman.tree.Node.TheVariants.{Leaf}
use Rattle.bitstream_value.specs.declared.huffman.tree.words.Gathered.{Gathered}
use Rattle.bitstream_value.specs.declared.huffman.tree.words.SymbolWord.{SymbolWord}

-- ---- bits one by one

-- one bit more, and one that has no room
pub bit-pushed : (b : Bool) (s t : Gathered) (n : ℕ) → n ≡ length (gathered_bits s) → n ≢ 63
    → gathered_bits t ≡ gathered_bits s ++ b ∷ [] → Writes {T = Unit {0}} gathered_sink (bit b) s (Ok tt) t
bit-pushed b s t n size room is =
    let most = code_bits-most s.word in
    was_done (b ∷ []) tt refl refl (omega (arith, size, room, most)) refl (record {
      grown = is;
      sound = refl;
      refusals = refl;
      references = refl;
    })

pub bit-lacks : (b : Bool) (s : Gathered) (n : ℕ) → n ≡ length (gathered_bits s) → n ≡ 63
    → Writes {T = Unit {0}} gathered_sink (bit b) s (Err CounterOverflow) s
bit-lacks b s n size full =
    past_limit (b ∷ []) refl refl (omega (arith, size, full)) refl (record {
      grown = sym (append-nil (gathered_bits s));
      failed = refl;
      refusals = refl;
      references = refl;
    })

-- one bit was put
put-behind : (b : Bool) (s t : Gathered) → Writes {T = Unit {0}} gathered_sink (bit b) s (Ok tt) t
    → gathered_bits t ≡ gathered_bits s ++ b ∷ []
put-behind b s t (had_failed f answer kept) = cc
put-behind b s t (was_rejected error f is answer kept) = cc
put-behind b s t (past_limit w f is past answer kept) = cc
put-behind b s t (was_refused w error f is within answer kept) = cc
put-behind b s t (was_done w done f is within answer h) =
    let word_is : b ∷ [] ≡ w = cc in
    h.grown ∙ ap (λ (u : List Bool). gathered_bits s ++ u) (sym word_is)

-- bits that were put are after those before
pub all-behind : (w : List Bool) (s t : Gathered) → WritesAll gathered_sink (bit_by_bit w) s (Ok tt) t
    → gathered_bits t ≡ gathered_bits s ++ w
unfolding WritesAll
all-behind [] s t h = ap gathered_bits h.1 ∙ sym (append-nil (gathered_bits s))
all-behind (b ∷ w) s t (inl p) = let z = p.0 in cc
all-behind (b ∷ w) s t (inr p) =
    all-behind w p.0 t p.2 ∙ ap (λ (u : List Bool). u ++ w) (put-behind b s p.0 p.1)
    ∙ append_assoc (gathered_bits s) (b ∷ []) w

-- ---- symbols that are the same

-- a code word that was made is the tree's
abbrev pub IsMade : {S : Type 0} → (S → S → Bool) → Tree S → SymbolWord S → Type 0
IsMade same t it = code_bits it.word ≡ symbol_word same t it.symbol

module _ {S : Type 0} (same : S → S → Bool) (law : IsEquivalence same) where
  -- they are the same as the same others
  alike : (x a b : S) → same a b ≡ true → same x a ≡ same x b
  alike x a b is = law.symm x a ∙ law.congr a b x is ∙ law.symm b x

  same-path : (t : Tree S) (a b : S) → same a b ≡ true → first_path same t a ≡ first_path same t b
  same-path (leaf x) a b is = rw (alike x a b is) refl
  same-path (node y z) a b is = rw (same-path y a b is, same-path z a b is) refl

  -- and have the same code word
  same-word : (t : Tree S) (a b : S) → same a b ≡ true → symbol_word same t a ≡ symbol_word same t b
  unfolding symbol_word
  same-word t a b is = ap (λ (w : Option (List Bool)). or_nothing w) (same-path t a b is)

  found-case : (t : Tree S) (s : S) (it : SymbolWord S) (made : List (SymbolWord S)) (b : Bool) → same it.symbol s ≡ b
      → IsMade same t it → or_word (found_word same made s) (symbol_word same t s) ≡ symbol_word same t s
      → or_word (if b then Some (code_bits it.word) else found_word same made s) (symbol_word same t s)
      ≡ symbol_word same t s
  found-case t s it made true is right others = right ∙ same-word t it.symbol s is
  found-case t s it made false is right others = others

  found-by : (t : Tree S) (s : S) (made : List (SymbolWord S)) → AllByRecursion (IsMade same t) made
      → or_word (found_word same made s) (symbol_word same t s) ≡ symbol_word same t s
  found-by t s [] all = refl
  found-by t s (it ∷ made) all =
      found-case t s it made (same it.symbol s) refl all.0 (found-by t s made all.1)

  pub found-right : (t : Tree S) (s : S) (made : List (SymbolWord S)) → All (IsMade same t) made
      → or_word (found_word same made s) (symbol_word same t s) ≡ symbol_word same t s
  found-right t s made all = found-by t s made (recursion_from_All (IsMade same t) made all)

-- ---- code words that are too long

one-too-long : (b : Bool) (s t : Gathered) (x : Error) → Writes {T = Unit {0}} gathered_sink (bit b) s (Err x) t
    → 63 < length (gathered_bits s) + 1
one-too-long b s t x (had_failed f answer kept) = cc
one-too-long b s t x (was_rejected error f is answer kept) = cc
one-too-long b s t x (past_limit w f is past answer kept) =
    let word_is : b ∷ [] ≡ w = cc in
    let long = ap (λ (u : List Bool). length u) word_is in
    omega (arith, past, long)
one-too-long b s t x (was_refused w error f is within answer h) = absurd h.allowed
one-too-long b s t x (was_done w done f is within answer h) = cc

one-more : (b : Bool) (s t : Gathered) → Writes {T = Unit {0}} gathered_sink (bit b) s (Ok tt) t → length (gathered_bits t)
    ≡ length (gathered_bits s) + 1
one-more b s t h =
    let grown = ap (λ (u : List Bool). length u) (put-behind b s t h) in
    let all = length-append (gathered_bits s) (b ∷ []) in
    omega (arith, grown, all)

-- bits of which one was not put are more than there is room for
pub too-long : (w : List Bool) (s t : Gathered) (x : Error) → WritesAll gathered_sink (bit_by_bit w) s (Err x) t
    → 63 < length (gathered_bits s) + length w
unfolding WritesAll
too-long [] s t x h = let z = h.0 in cc
too-long (b ∷ w) s t x (inl p) = let one = one-too-long b s t x p.1 in omega (arith, one)
too-long (b ∷ w) s t x (inr p) =
    let rest = too-long w p.0 t x p.2 in
    let more = one-more b s p.0 p.1 in
    omega (arith, rest, more)

-- ---- code words that are found

-- none of these symbols is the same as s
abbrev pub LacksWord : {S : Type 0} → (S → S → Bool) → List (SymbolWord S) → S → Type 0
LacksWord same made s = All (λ it. same it.symbol s ≡ false) made

-- the symbols of the first k nodes whose code words are short enough have a code word that was made
abbrev pub HasShort : {S : Type 0} → (S → S → Bool) → Tree S → List (Node S) → ℕ → List (SymbolWord S) → Type 0
HasShort {S} same t nodes k made = (j : ℕ) (x : S) → j < k → slice_get nodes j ≡ Some (Leaf x)
    → length (symbol_word same t x) ≤ 63 → LacksWord same made x → ⊥

module _ {S : Type 0} (same : S → S → Bool) (law : IsEquivalence same) (t : Tree S) where
  lacks_case : (s : S) (it : SymbolWord S) (made : List (SymbolWord S)) (b : Bool) → same it.symbol s ≡ b
      → (if b then Some (code_bits it.word) else found_word same made s) ≡ None
      → (found_word same made s ≡ None → LacksWord same made s) → LacksWord same (it ∷ made) s
  lacks_case s it made true is none rest = cc
  lacks_case s it made false is none rest = All-cons (λ it. same it.symbol s ≡ false) it made is (rest none)

  lacks-word : (s : S) (made : List (SymbolWord S)) → found_word same made s ≡ None → LacksWord same made s
  lacks-word s [] none = All-nil (λ it. same it.symbol s ≡ false)
  lacks-word s (it ∷ made) none = lacks_case s it made (same it.symbol s) refl none (lacks-word s made)

  module _ (nodes : List (Node S)) (stands : Stands nodes t 0 (length nodes)) (made : List (SymbolWord S))
      (right : All (IsMade same t) made) (short : HasShort same t nodes (length nodes) made) (s : S)
      (w : List Bool) (path : first_path same t s ≡ Some w) (few : length w ≤ 63) where
    short_word : symbol_word same t s ≡ w
    short_word = word-some same s t w path

    none-left : found_word same made s ≡ None → ⊥
    none-left none =
        let no = path-lacks same s nodes t (length nodes) stands (λ k low below has.
        let alike_word = same-word same law t has.0 s has.2 in
        let size : length (symbol_word same t has.0) ≤ 63 =
        let long = ap (λ (u : List Bool). length u) (alike_word ∙ short_word) in omega (arith, long, few) in
        short k has.0 below has.1 size (All-weaker (λ (it : SymbolWord S). same it.symbol s ≡ false)
        (λ (it : SymbolWord S). same it.symbol has.0 ≡ false)
        (λ it is. alike same law it.symbol has.0 s has.2 ∙ is) made (lacks-word s made none))) in
        cc

    found_by : (o : Option (List Bool)) → found_word same made s ≡ o → found_word same made s ≡ Some w
    found_by None is = absurd (none-left is)
    found_by (Some u) is =
        let whole = found-right same law t s made right in
        let here : u ≡ symbol_word same t s = rw is at whole in
        is ∙ ap Some (here ∙ short_word)

    pub finds-short : found_word same made s ≡ Some w
    finds-short = found_by (found_word same made s) refl

all-prefix : {A : Type 0} (P : A → Type 0) (xs ys : List A) → All P (xs ++ ys) → All P xs
all-prefix P [] ys all = All-nil P
all-prefix P (x ∷ xs) ys all =
    All-cons P x xs (All-head P x (xs ++ ys) all) (all-prefix P xs ys (All-tail P x (xs ++ ys) all))

all-back : {A : Type 0} (P : A → Type 0) (xs ys : List A) → All P (xs ++ ys) → All P ys
all-back P [] ys all = all
all-back P (x ∷ xs) ys all = all-back P xs ys (All-tail P x (xs ++ ys) all)

module _ {S : Type 0} (same : S → S → Bool) (t : Tree S) (nodes : List (Node S)) where
  -- the code words in another order, of all nodes
  pub short-sorted : (items : List (Node S)) (k : ℕ) (made before sorted : List (SymbolWord S)) → items ≡ nodes
      → length items ≤ k → before ≡ made → IsPermutation before sorted → HasShort same t items k made
      → HasShort same t nodes (length nodes) sorted
  short-sorted items k made before sorted is all held order short = λ j x below at few lacks.
      let count = ap (λ (xs : List (Node S)). length xs) is in
      let less : j < k = omega (arith, below, all, count) in
      let there = ap (λ (xs : List (Node S)). slice_get xs j) is ∙ at in
      let unsorted = All-permutation (λ (it : SymbolWord S). same it.symbol x ≡ false) sorted before
      (IsPermutation-sym before sorted order) lacks in
      short j x less there few (subst (λ (xs : List (SymbolWord S)). LacksWord same xs x) held unsorted)

  module _ (law : IsEquivalence same) (k : ℕ) (made : List (SymbolWord S)) (y : Node S) (below : k < length nodes)
      (read : y ≡ get_or nodes k y) (short : HasShort same t nodes k made) where
    -- one more node, of whose symbol nothing is made
    pub short-next : ((x : S) → y ≡ Leaf x → length (symbol_word same t x) ≤ 63 → LacksWord same made x → ⊥)
        → HasShort same t nodes (k + 1) made
    short-next here = λ j x less at few lacks. elim (cases_lt j k) [
      | inl before ↦ short j x before at few lacks
      | inr last ↦
          let place : j ≡ k = omega (arith, less, last) in
          let there : slice_get nodes k ≡ Some (Leaf x) = ap (λ (i : ℕ). slice_get nodes i) (sym place) ∙ at in
          let known = node-at nodes k y y below read refl in
          let is : y ≡ Leaf x = cc in
          here x is few lacks
    ]

    -- a leaf whose code word is too long
    pub short-long : (x : S) → y ≡ Leaf x → 63 < length (symbol_word same t x) → HasShort same t nodes (k + 1) made
    short-long x is long = short-next (λ z at few lacks.
        let one : x ≡ z = cc in
        let size = ap (λ (s : S). length (symbol_word same t s)) one in
        absurd (omega (arith, long, few, size)))

    -- a branch
    pub short-branch : ((x : S) → y ≡ Leaf x → ⊥) → HasShort same t nodes (k + 1) made
    short-branch none = short-next (λ x is few lacks. none x is)

    -- a leaf whose code word is made
    pub short-pushed : (more : List (SymbolWord S)) (it : SymbolWord S) (x : S) → y ≡ Leaf x → it.symbol ≡ x
        → more ≡ made ++ it ∷ [] → HasShort same t nodes (k + 1) more
    short-pushed more it x is symbol grown = λ j z less at few lacks.
        let all = subst (λ (xs : List (SymbolWord S)). LacksWord same xs z) grown lacks in
        let prefix = all-prefix (λ (it : SymbolWord S). same it.symbol z ≡ false) made (it ∷ []) all in
        elim (cases_lt j k) [
          | inl before ↦ short j z before at few prefix
          | inr last ↦
              let place : j ≡ k = omega (arith, less, last) in
              let there : slice_get nodes k ≡ Some (Leaf z) = ap (λ (i : ℕ). slice_get nodes i) (sym place) ∙ at in
              let known = node-at nodes k y y below read refl in
              let one : y ≡ Leaf z = cc in
              let symbol_is : it.symbol ≡ z = cc in
              let other : same it.symbol z ≡ false = All-head (λ (it : SymbolWord S). same it.symbol z ≡ false) it []
              (all-back (λ (it : SymbolWord S). same it.symbol z ≡ false) made (it ∷ []) all) in
              let itself : same it.symbol z ≡ true = ap (same it.symbol) (sym symbol_is) ∙ law.refl it.symbol in
              cc
        ]

-- ---- the search

module _ {S : Type 0} (same : S → S → Bool) (made : List (SymbolWord S)) (s : S) (k : ℕ) where
  -- a symbol that is another
  pub found-later : (d : SymbolWord S) → k < length made → same (get_or made k d).symbol s ≡ false
      → found_word same (drop k made) s ≡ found_word same (drop (k + 1) made) s
  found-later d less other = rw (drop-cons made k d less, other, add-one k) refl

  -- and one that is the same
  pub found-here : (d : SymbolWord S) → k < length made → same (get_or made k d).symbol s ≡ true
      → found_word same (drop k made) s ≡ Some (code_bits (get_or made k d).word)
  found-here d less is = rw (drop-cons made k d less, is) refl

  -- none
  pub found-none : length made ≤ k → found_word same (drop k made) s ≡ None
  found-none all = rw (drop_all k made all) refl
