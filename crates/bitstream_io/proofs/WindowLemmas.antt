-- What a tree's decoder reads from a window.
use Rattle.std.specs.Prelude.{nat_le, if◌then◌else◌, slice_get}
use Rattle.std.proofs.Common.{◌≡◌, ◌⊎◌, ℕ, zero, suc, ◌+◌, ◌-◌, ◌*◌, ◌^◌, ◌<◌, ◌≤◌, Bool, true, false, List, [], ◌∷◌, ◌++◌, length, take, drop, Some, Ok, Err, refl, sym, ap, ◌∙◌, subst, arith, append_assoc, append-nil, take-append-drop, inl, inr}
use Rattle.std.proofs.lemmas.Bool.{cases_lt, le-leb, lt-leb, lt-ltb, le-ltb}
use Rattle.std.proofs.lemmas.List.{length-take-le, take-take}
use Rattle.bitstream_count.specs.declared.error.Error.{Error}
use Rattle.bitstream_count.specs.Codec.{Decoder, Prefix, Incomplete, Done}
use Rattle.bitstream_number.specs.Word.{Order, High, Low, word, bits}
use Rattle.bitstream_order.specs.Reference.{Reference}
use Rattle.bitstream_order.specs.Parts.{first_part}
use Rattle.bitstream_stream.specs.Reading.Reads.{ReaderState, BitSource, Reads, had_failed, was_done, was_refused, memory_refused, sure_answer}
use Rattle.bitstream_stream.specs.Reading.Reader.{new_reader_state}
use Rattle.bitstream_stream.proofs.Reading.ReadsLemmas.{Consumes-known, parts_left}
use Rattle.bitstream_value.specs.Tree.{Tree, leaf, node, IsPath, path_decoder}
use Rattle.bitstream_io.specs.Windows.{Finds, FindsAll, window_word}
use Rattle.bitstream_io.specs.declared.symbols.Found.{Found}
use Rattle.bitstream_value.proofs.TreeLemmas.{paths_apart, path-reads, path-taken}

-- ---- prefixes of paths

-- a part of a path is too short for a read
pub path-short : {S : Type 0} (t : Tree S) (w : List Bool) (s : S) (p : ℕ) (prefix back : List Bool) → IsPath t w s
    → w ≡ prefix ++ back → length prefix < length w → (path_decoder t).reads p prefix ≡ Incomplete
path-short t w s p prefix back path is less = by ((path_decoder t).reads p prefix) refl
  where
    by : (f : Prefix _) → (path_decoder t).reads p prefix ≡ f → (path_decoder t).reads p prefix ≡ Incomplete
    by Incomplete e = e
    by (Done n r) e =
        let k = path-taken t p prefix n r e in
        let there = k.there in
        let whole : take n prefix ++ (drop n prefix ++ back) ≡ w ++ [] =
        sym (append_assoc (take n prefix) (drop n prefix) back)
        ∙ ap (λ (u : List Bool). u ++ back) (take-append-drop n prefix) ∙ sym is ∙ sym (append-nil w) in
        let same = paths_apart t (take n prefix) w (drop n prefix ++ back) [] k.symbol s k.path path whole in
        let size = ap (λ (u : List Bool). length u) same.0 in
        absurd (omega (arith, less, size, length-take-le n prefix there))

-- what is read of the first bits alone
pub reads-first : {S : Type 0} (t : Tree S) (bits : List Bool) (m n : ℕ) (s : S) → m ≤ length bits
    → (path_decoder t).reads 0 bits ≡ Done n (Ok s)
    → (path_decoder t).reads 0 (take m bits) ≡ (if nat_le n m then Done n (Ok s) else Incomplete)
reads-first t bits m n s le e =
    let k = path-taken t 0 bits n (Ok s) e in
    let symbol : k.symbol ≡ s = let a = k.answer in cc in
    let path = subst (IsPath t (take n bits)) symbol k.path in
    let there = k.there in
    let size : length (take n bits) ≡ n = length-take-le n bits there in
    elim (cases_lt m n) [
      | inl long ↦
          let first : take m (take n bits) ≡ take m bits = take-take m n bits (omega (arith, long)) in
          let is : take n bits ≡ take m bits ++ drop m (take n bits) =
          sym (take-append-drop m (take n bits)) ∙ ap (λ (u : List Bool). u ++ drop m (take n bits)) first in
          rw (lt-leb n m long) (path-short t (take n bits) s 0 (take m bits) (drop m (take n bits)) path is
          (omega (arith, long, size, length-take-le m bits le)))
      | inr short ↦
          let first : take n (take m bits) ≡ take n bits = take-take n m bits short in
          let parts : take m bits ≡ take n bits ++ drop n (take m bits) =
          sym (take-append-drop n (take m bits)) ∙ ap (λ (u : List Bool). u ++ drop n (take m bits)) first in
          rw (le-leb n m short) (ap (λ (u : List Bool). (path_decoder t).reads 0 u) parts
          ∙ path-reads t (take n bits) s 0 (drop n (take m bits)) path ∙ ap (λ (i : ℕ). Done i (Ok s)) size)
    ]

-- and if all bits are too few
pub reads-none : {S : Type 0} (t : Tree S) (bits : List Bool) (m : ℕ) → (path_decoder t).reads 0 bits ≡ Incomplete
    → (path_decoder t).reads 0 (take m bits) ≡ Incomplete
reads-none t bits m e = by ((path_decoder t).reads 0 (take m bits)) refl
  where
    by : (f : Prefix _) → (path_decoder t).reads 0 (take m bits) ≡ f → (path_decoder t).reads 0 (take m bits) ≡ Incomplete
    by Incomplete is = is
    by (Done n r) is =
        let k = path-taken t 0 (take m bits) n r is in
        let first = take n (take m bits) in
        let parts : bits ≡ first ++ (drop n (take m bits) ++ drop m bits) =
        sym (take-append-drop m bits)
        ∙ ap (λ (u : List Bool). u ++ drop m bits) (sym (take-append-drop n (take m bits)))
        ∙ append_assoc first (drop n (take m bits)) (drop m bits) in
        let done = path-reads t first k.symbol 0 (drop n (take m bits) ++ drop m bits) k.path in
        let all = ap (λ (u : List Bool). (path_decoder t).reads 0 u) parts ∙ done in
        absurd (cc (all, e))

-- ---- what a new reader took

module _ {R A : Type 0} {K : BitSource R} {d : Decoder A} {s t : R} (xs : List ℕ) (references : List Reference)
    (new : K.state s ≡ new_reader_state (Some xs) references) where
  pub new-taken : (a : A) → Reads K d s (Ok a) t → d.reads 0 (bits K.order xs) ≡ Done (K.state t).taken (Ok a)
  new-taken a (had_failed h) =
      let failed = h.failed in
      let fine = ap (λ (x : ReaderState). x.failed) new in
      absurd (cc (failed, fine))
  new-taken a (was_done h) =
      let known = ap (λ (x : ReaderState). x.bytes) new in
      let none = ap (λ (x : ReaderState). x.queue) new in
      let zero = ap (λ (x : ReaderState). x.taken) new in
      let lost = Consumes-known (K.state s).bytes (K.state t).bytes h.gone xs h.loses known in
      let all : bits K.order xs ≡ h.word ++ (h.rest ++ bits K.order lost.0) =
      ap (λ (u : List Bool). u ++ bits K.order xs) (sym none) ∙ ap (λ l. (K.state s).queue ++ bits K.order l) lost.2
      ∙ parts_left K.order (K.state s).queue h.rest h.word h.gone lost.0 h.parts in
      let taken : (K.state t).taken ≡ length h.word = let e = h.taken in omega (arith, e, zero) in
      ap (λ (u : List Bool). d.reads 0 u) all
      ∙ ap (λ (i : ℕ). d.reads i (h.word ++ (h.rest ++ bits K.order lost.0))) (sym zero)
      ∙ h.decides (h.rest ++ bits K.order lost.0) ∙ ap (λ (i : ℕ). Done i (Ok a)) (sym taken)
  new-taken a (was_refused h) = let answer = h.answer in absurd (cc answer)
  new-taken a (memory_refused g h) = absurd (cc g)

-- a read that ends in an error read all bits, and they were too few
pub new-short : {S : Type 0} (t : Tree S) (bits : List Bool) (x : Error)
    → Err x ≡ sure_answer ((path_decoder t).reads 0 bits) → (path_decoder t).reads 0 bits ≡ Incomplete
new-short t bits x e = by ((path_decoder t).reads 0 bits) refl
  where
    by : (f : Prefix _) → (path_decoder t).reads 0 bits ≡ f → (path_decoder t).reads 0 bits ≡ Incomplete
    by Incomplete is = is
    by (Done n r) is =
        let k = path-taken t 0 bits n r is in
        let answer = k.answer in
        let whole : Err x ≡ r = e ∙ ap sure_answer is in
        absurd (cc (answer, whole))

-- ---- the entry of a window

module _ {S : Type 0} (t : Tree S) (window bits : List Bool) (m : ℕ) (first : take m bits ≡ window) where
  pub finds-word : (f : Found S) (n : ℕ) (s : S) → m ≡ 10 → m ≤ length bits → n ≤ 10 → f.bits ≡ n → f.symbol ≡ s
      → (path_decoder t).reads 0 bits ≡ Done n (Ok s) → Finds t window f
  finds-word f n s ten le few size symbol e =
      let known = reads-first t bits m n s le e in
      let short : n ≤ m = omega (arith, few, ten) in
      let done : (path_decoder t).reads 0 window ≡ Done n (Ok s) =
      ap (λ (u : List Bool). (path_decoder t).reads 0 u) (sym first) ∙ known
      ∙ rw (le-leb n m short) refl in
      done ∙ rw (size, symbol, le-leb n 10 few) refl

  pub finds-longer : (f : Found S) (n : ℕ) (s : S) → m ≡ 10 → m ≤ length bits → 10 < n → 10 < f.bits
      → (path_decoder t).reads 0 bits ≡ Done n (Ok s) → Finds t window f
  finds-longer f n s ten le long above e =
      let known = reads-first t bits m n s le e in
      let more : m < n = omega (arith, long, ten) in
      ap (λ (u : List Bool). (path_decoder t).reads 0 u) (sym first) ∙ known
      ∙ rw (lt-leb n m more, lt-leb f.bits 10 above) refl

  pub finds-none : (f : Found S) → 10 < f.bits → (path_decoder t).reads 0 bits ≡ Incomplete → Finds t window f
  finds-none f above e =
      ap (λ (u : List Bool). (path_decoder t).reads 0 u) (sym first) ∙ reads-none t bits m e
      ∙ rw (lt-leb f.bits 10 above) refl

-- ---- the window at an index

pub window-high : (k : ℕ) → k < 1024 → window_word k ≡ word High 10 k
window-high k less = rw (lt-ltb k 1024 less) refl

pub window-low : (k : ℕ) → 1024 ≤ k → window_word k ≡ word Low 10 (k - 1024)
window-low k le = rw (le-ltb k 1024 le) refl

pub window-at : (o : Order) (v half k : ℕ) → v < 2 ^ 10 → half ≡ first_part o 1 8 1 → k ≡ 1024 * half + v
    → window_word k ≡ word o 10 v
window-at High v half k less is place =
    let zero : half ≡ 0 = is in
    let same : k ≡ v = omega (arith, zero, place) in
    window-high k (omega (arith, less, same)) ∙ ap (word High 10) same
window-at Low v half k less is place =
    let one : half ≡ 1 = is in
    let more : 1024 ≤ k = omega (arith, one, place) in
    let same : k - 1024 ≡ v = omega (arith, one, place) in
    window-low k more ∙ ap (word Low 10) same

pub half-small : (o : Order) → first_part o 1 8 1 ≤ 1
half-small High = omega arith
half-small Low = omega arith

-- ---- one entry more

got-more : {A : Type 0} (xs : List A) (x : A) (k : ℕ) (y : A) → slice_get (xs ++ x ∷ []) k ≡ Some y
    → (slice_get xs k ≡ Some y) ⊎ ((k ≡ length xs) × (x ≡ y))
got-more [] x zero y e = inr (refl, cc)
got-more [] x (suc k) y e = absurd cc
got-more (z ∷ xs) x zero y e = inl e
got-more (z ∷ xs) x (suc k) y e = elim (got-more xs x k y e) [
  | inl before ↦ inl before
  | inr last ↦ let place = last.0 in inr (omega arith, last.1)
]

pub finds-more : {S : Type 0} (t : Tree S) (xs : List (Found S)) (f : Found S) → FindsAll t xs
    → Finds t (window_word (length xs)) f → FindsAll t (xs ++ f ∷ [])
finds-more t xs f all here k y e = elim (got-more xs f k y e) [
  | inl before ↦ all k y before
  | inr last ↦ subst (λ (g : Found _). Finds t (window_word k) g) last.1
      (subst (λ (i : ℕ). Finds t (window_word i) f) (sym last.0) here)
]

pub finds-nothing : {S : Type 0} (t : Tree S) → FindsAll t []
finds-nothing t k y e = absurd cc

-- ---- what an entry says

pub IsPath-prop : {S : Type 0} → IsSet S → (t : Tree S) (w : List Bool) (s : S) → IsProp (IsPath t w s)
IsPath-prop set (leaf x) [] s = set x s
IsPath-prop set (leaf x) (b ∷ w) s = λ p q. absurd p
IsPath-prop set (node a b) [] s = λ p q. absurd p
IsPath-prop set (node a b) (false ∷ w) s = IsPath-prop set a w s
IsPath-prop set (node a b) (true ∷ w) s = IsPath-prop set b w s

module _ {S : Type 0} (t : Tree S) (window : List Bool) (f : Found S) (h : Finds t window f) where
  pub found-path : f.bits ≤ 10 → IsPath t (take f.bits window) f.symbol
  found-path few =
      let done : (path_decoder t).reads 0 window ≡ Done f.bits (Ok f.symbol) = h ∙ rw (le-leb f.bits 10 few) refl in
      let k = path-taken t 0 window f.bits (Ok f.symbol) done in
      let symbol : k.symbol ≡ f.symbol = let a = k.answer in cc in
      subst (IsPath t (take f.bits window)) symbol k.path

  pub found-none : 10 < f.bits → (n : ℕ) (s : S) → IsPath t (take n window) s → ⊥
  found-none above n s path =
      let none : (path_decoder t).reads 0 window ≡ Incomplete = h ∙ rw (lt-leb f.bits 10 above) refl in
      let done = path-reads t (take n window) s 0 (drop n window) path in
      let all = ap (λ (u : List Bool). (path_decoder t).reads 0 u) (sym (take-append-drop n window)) ∙ done in
      absurd (cc (all, none))
