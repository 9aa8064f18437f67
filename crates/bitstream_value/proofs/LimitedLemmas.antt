-- Limited unary code words are the paths of their tree, and are read and written digit by digit.
use Rattle.std.proofs.Common.{◌≡◌, ◌⊎◌, inl, inr, ℕ, zero, suc, ◌+◌, ◌-◌, ◌<◌, ◌≤◌, Bool, true, false, not, List, [], ◌∷◌, ◌++◌, replicate, Option, Some, None, Result, Ok, Err, refl, sym, ap, ◌∙◌, subst, arith}
use Rattle.std.specs.Prelude.{IfSome, if◌then◌else◌}
use Rattle.std.specs.Result.{IsErrAnd}
use Rattle.std.proofs.lemmas.Bool.{lt-ltb, le-ltb}
use Rattle.std.proofs.lemmas.List.{map-append}
use mathlib.Core.Bool.{beq}
use Rattle.bitstream_count.specs.Unary.{unary}
use Rattle.bitstream_count.specs.declared.error.Error.{Error}
use Rattle.bitstream_stream.specs.Reading.ReadTable.{bit_decoder}
use Rattle.bitstream_stream.specs.Reading.Reads.{BitSource, Reads}
use Rattle.bitstream_stream.specs.Writing.Sink.{Sink, Writes, WritesAll}
use Rattle.bitstream_stream.specs.Writing.WriteTable.{bit}
use Rattle.bitstream_stream.proofs.Reading.ReadsLemmas.{Reads-and_then-ok, Reads-pure, exit}
use Rattle.bitstream_stream.proofs.Writing.WriteParts.{all_none, all_one, all_err, all_more, all_append, all_stop}
use Rattle.bitstream_value.specs.LimitedUnary.{limited_unary, limited_tree}
use Rattle.bitstream_value.specs.Tree.{leaf, node, IsPath, path_decoder, bit_by_bit}
use Rattle.bitstream_value.proofs.TreeLemmas.{path_decoder-leaf, path_decoder-node}

-- ---- the tree

tree-end : (stop : Bool) (k : ℕ) → limited_tree stop k 0 ≡ leaf None
unfolding limited_tree
tree-end stop k = refl

tree-false : (k m : ℕ) → limited_tree false k (suc m) ≡ node (leaf (Some k)) (limited_tree false (k + 1) m)
unfolding limited_tree
tree-false k m = refl

tree-true : (k m : ℕ) → limited_tree true k (suc m) ≡ node (limited_tree true (k + 1) m) (leaf (Some k))
unfolding limited_tree
tree-true k m = refl

none-path : (stop : Bool) (k m : ℕ) → IsPath (limited_tree stop k m) (replicate m (not stop)) None
none-path stop k zero = rw tree-end refl
none-path true k (suc m) = rw tree-true (none-path true (k + 1) m)
none-path false k (suc m) = rw tree-false (none-path false (k + 1) m)

some-path : (stop : Bool) (k m i : ℕ) → i < m → IsPath (limited_tree stop k m) (unary stop i) (Some (k + i))
some-path stop k zero i less = absurd (omega arith)
some-path true k (suc m) zero less = rw tree-true (ap Some (omega arith))
some-path false k (suc m) zero less = rw tree-false (ap Some (omega arith))
some-path true k (suc m) (suc i) less =
    let place : (k + 1) + i ≡ k + suc i = omega arith in
    rw tree-true (subst (λ v. IsPath (limited_tree true (k + 1) m) (unary true i) (Some v)) place
    (some-path true (k + 1) m i (omega arith)))
some-path false k (suc m) (suc i) less =
    let place : (k + 1) + i ≡ k + suc i = omega arith in
    rw tree-false (subst (λ v. IsPath (limited_tree false (k + 1) m) (unary false i) (Some v)) place
    (some-path false (k + 1) m i (omega arith)))

-- a path of the tree is the code word of none, or that of a number
record IsNumber (stop : Bool) (k m : ℕ) (w : List Bool) (v : Option ℕ) : Type 0 where
  number : ℕ
  below : number < m
  value : v ≡ Some (k + number)
  word : w ≡ unary stop number

Is : Bool → ℕ → ℕ → List Bool → Option ℕ → Type 0
Is stop k m w v = ((v ≡ None) × (w ≡ replicate m (not stop))) ⊎ IsNumber stop k m w v

further : (stop : Bool) (k m : ℕ) (w : List Bool) (v : Option ℕ) → Is stop (k + 1) m w v
    → Is stop k (suc m) (not stop ∷ w) v
unfolding Is
further stop k m w v (inl h) = inl (h.0, ap (λ u. not stop ∷ u) h.1)
further stop k m w v (inr h) = inr (record {
  number = suc h.number;
  below = let less = h.below in omega arith;
  value = h.value ∙ ap Some (omega arith);
  word = ap (λ u. not stop ∷ u) h.word;
})

here : (stop : Bool) (k m : ℕ) (w : List Bool) (v : Option ℕ) → w ≡ [] → Some k ≡ v → Is stop k (suc m) (stop ∷ w) v
unfolding Is
here stop k m w v e h = inr (record {
  number = 0;
  below = omega arith;
  value = sym h ∙ ap Some (omega arith);
  word =
      ap (λ u. stop ∷ u) e;
})

leaf-path : {S : Type 0} (x : S) (w : List Bool) (s : S) → IsPath (leaf x) w s → (w ≡ []) × (x ≡ s)
leaf-path x [] s h = (refl, h)
leaf-path x (c ∷ w) s h = absurd h

path-is : (stop : Bool) (k m : ℕ) (w : List Bool) (v : Option ℕ) → IsPath (limited_tree stop k m) w v → Is stop k m w v
unfolding Is
path-is stop k zero w v h = let e = leaf-path None w v (rw tree-end at h) in inl (sym e.1, e.0)
path-is true k (suc m) [] v h = absurd (rw tree-true at h)
path-is true k (suc m) (false ∷ w) v h = further true k m w v (path-is true (k + 1) m w v (rw tree-true at h))
path-is true k (suc m) (true ∷ w) v h = let e = leaf-path (Some k) w v (rw tree-true at h) in here true k m w v e.0 e.1
path-is false k (suc m) [] v h = absurd (rw tree-false at h)
path-is false k (suc m) (true ∷ w) v h = further false k m w v (path-is false (k + 1) m w v (rw tree-false at h))
path-is false k (suc m) (false ∷ w) v h = let e = leaf-path (Some k) w v (rw tree-false at h) in
    here false k m w v e.0 e.1

pub limited-path : (stop : Bool) (most : ℕ) (v : Option ℕ) → IfSome v (λ k. k < most)
    → IsPath (limited_tree stop 0 most) (limited_unary stop most v) v
limited-path stop most None fits = none-path stop 0 most
limited-path stop most (Some k) fits =
    let same : 0 + k ≡ k = omega arith in
    rw (lt-ltb k most fits) (subst (λ i. IsPath (limited_tree stop 0 most) (unary stop k) (Some i)) same
    (some-path stop 0 most k fits))

limited-is : (stop : Bool) (most : ℕ) (w : List Bool) (v : Option ℕ) → Is stop 0 most w v → IfSome v (λ k. k < most)
    × (w ≡ limited_unary stop most v)
unfolding Is
limited-is stop most w None (inl h) = (tt, h.1)
limited-is stop most w (Some k) (inl h) = let e = h.0 in absurd cc
limited-is stop most w None (inr h) = let e = h.value in absurd cc
limited-is stop most w (Some k) (inr h) =
    let e = h.value in
    let same : k ≡ 0 + h.number = cc in
    let is : h.number ≡ k = omega arith in
    let fits : k < most = let less = h.below in omega arith in
    (fits, rw (lt-ltb k most fits) (h.word ∙ ap (unary stop) is))

pub limited-paths : (stop : Bool) (most : ℕ) (w : List Bool) (v : Option ℕ) → IsPath (limited_tree stop 0 most) w v
    → IfSome v (λ k. k < most) × (w ≡ limited_unary stop most v)
limited-paths stop most w v h = limited-is stop most w v (path-is stop 0 most w v h)

-- of those that are left, one and then others
left : (most k : ℕ) → k < most → most - k ≡ suc (most - (k + 1))
left most k less = omega arith

-- ---- reading

module _ {N : Type 0} {K : BitSource N} where
  -- one digit that is not the stop digit, and what follows it
  digit-more : (stop : Bool) (k m : ℕ) (r : Result (Option ℕ) Error) {s u z : N} → Reads K bit_decoder s (Ok (not stop)) u
      → Reads K (path_decoder (limited_tree stop (k + 1) m)) u r z
      → Reads K (path_decoder (limited_tree stop k (suc m))) s r z
  digit-more true k m r h l = rw (tree-true, path_decoder-node)
      (Reads-and_then-ok bit_decoder (λ c. if c then path_decoder (leaf (Some k)) else path_decoder
      (limited_tree true (k + 1) m)) h l)
  digit-more false k m r h l = rw (tree-false, path_decoder-node)
      (Reads-and_then-ok bit_decoder (λ c. if c then path_decoder (limited_tree false (k + 1) m) else path_decoder
      (leaf (Some k))) h l)

  digit-stop : (stop : Bool) (k m : ℕ) {s u : N} → Reads K bit_decoder s (Ok stop) u
      → Reads K (path_decoder (limited_tree stop k (suc m))) s (Ok (Some k)) u
  digit-stop true k m {u = u} h = rw (tree-true, path_decoder-node)
      (Reads-and_then-ok bit_decoder (λ c. if c then path_decoder (leaf (Some k)) else path_decoder
      (limited_tree true (k + 1) m)) h (rw path_decoder-leaf (Reads-pure (Some k) u)))
  digit-stop false k m {u = u} h = rw (tree-false, path_decoder-node)
      (Reads-and_then-ok bit_decoder (λ c. if c then path_decoder (limited_tree false (k + 1) m) else path_decoder
      (leaf (Some k))) h (rw path_decoder-leaf (Reads-pure (Some k) u)))

  digit-refused : (stop : Bool) (k m : ℕ) {x : Error} (r : Result (Option ℕ) Error) {s u : N} → IsErrAnd r (λ y. y ≡ x)
      → Reads K bit_decoder s (Err x) u → Reads K (path_decoder (limited_tree stop k (suc m))) s r u
  digit-refused true k m r e h = rw (tree-true, path_decoder-node)
      (exit (λ c. if c then path_decoder (leaf (Some k)) else path_decoder (limited_tree true (k + 1) m)) r e h)
  digit-refused false k m r e h = rw (tree-false, path_decoder-node)
      (exit (λ c. if c then path_decoder (limited_tree false (k + 1) m) else path_decoder (leaf (Some k))) r e h)

-- k digits were read, and what is read from there on is the result
pub record Counting {N : Type 0} (K : BitSource N) (stop : Bool) (most : ℕ) (from : N) (k : ℕ) (to : N) : Type 0 where
  pub on : (r : Result (Option ℕ) Error) (z : N) → Reads K (path_decoder (limited_tree stop k (most - k))) to r z
      → Reads K (path_decoder (limited_tree stop 0 most)) from r z

module _ {N : Type 0} {K : BitSource N} {stop : Bool} {most : ℕ} {from : N} where
  pub Counting-start : Counting K stop most from 0 from
  Counting-start = record { on = λ r z h. let all : most - 0 ≡ most = omega arith in rw all at h }

  pub Counting-more : {k : ℕ} {to m : N} → Counting K stop most from k to → k < most
      → Reads K bit_decoder to (Ok (not stop)) m → Counting K stop most from (k + 1) m
  Counting-more {k = k} {to = to} h less d = record {
    on = λ r z l. h.on r z (subst (λ i. Reads K (path_decoder (limited_tree stop k i)) to r z) (sym (left most k less))
        (digit-more stop k (most - (k + 1)) r d l));
  }

  pub Counting-stop : {k : ℕ} {to m : N} → Counting K stop most from k to → k < most → Reads K bit_decoder to (Ok stop) m
      → Reads K (path_decoder (limited_tree stop 0 most)) from (Ok (Some k)) m
  Counting-stop {k = k} {to = to} {m = m} h less d =
      h.on (Ok (Some k)) m (subst (λ i. Reads K (path_decoder (limited_tree stop k i)) to (Ok (Some k)) m)
      (sym (left most k less)) (digit-stop stop k (most - (k + 1)) d))

  pub Counting-refused : {k : ℕ} {to m : N} {x : Error} (r : Result (Option ℕ) Error) → Counting K stop most from k to
      → k < most → IsErrAnd r (λ y. y ≡ x) → Reads K bit_decoder to (Err x) m
      → Reads K (path_decoder (limited_tree stop 0 most)) from r m
  Counting-refused {k = k} {to = to} {m = m} r h less e d =
      h.on r m (subst (λ i. Reads K (path_decoder (limited_tree stop k i)) to r m) (sym (left most k less))
      (digit-refused stop k (most - (k + 1)) r e d))

  pub Counting-end : {k : ℕ} {to : N} → Counting K stop most from k to → k ≡ most
      → Reads K (path_decoder (limited_tree stop 0 most)) from (Ok None) to
  Counting-end {k = k} {to = to} h all =
      let none : most - k ≡ 0 = omega arith in
      h.on (Ok None) to (rw (none, tree-end, path_decoder-leaf) (Reads-pure None to))

-- ---- writing

-- k of the same bits were written, and what is written from there on completes them
pub record Repeating {P : Type 0} (K : Sink P) (b : Bool) (times : ℕ) (from : P) (k : ℕ) (to : P) : Type 0 where
  pub on : (r : Result (Unit {0}) Error) (z : P) → WritesAll K (bit_by_bit (replicate (times - k) b)) to r z
      → WritesAll K (bit_by_bit (replicate times b)) from r z

module _ {P : Type 0} {K : Sink P} {b : Bool} {times : ℕ} {from : P} where
  pub Repeating-start : Repeating K b times from 0 from
  Repeating-start = record { on = λ r z h. let all : times - 0 ≡ times = omega arith in rw all at h }

  pub Repeating-more : {k : ℕ} {to m : P} → Repeating K b times from k to → k < times
      → Writes {T = Unit {0}} K (bit b) to (Ok tt) m → Repeating K b times from (k + 1) m
  Repeating-more {k = k} {to = to} {m = m} h less w = record {
    on = λ r z l. h.on r z (subst (λ i. WritesAll K (bit_by_bit (replicate i b)) to r z) (sym (left times k less))
        (all_more K (bit b) (bit_by_bit (replicate (times - (k + 1)) b)) to m r z w l));
  }

  pub Repeating-refused : {k : ℕ} {to m : P} {x : Error} (r : Result (Unit {0}) Error) → Repeating K b times from k to
      → k < times → r ≡ Err x → Writes {T = Unit {0}} K (bit b) to (Err x) m
      → WritesAll K (bit_by_bit (replicate times b)) from r m
  Repeating-refused {k = k} {to = to} {m = m} {x = x} r h less e w =
      h.on r m (subst (λ i. WritesAll K (bit_by_bit (replicate i b)) to r m) (sym (left times k less))
      (all_err K (bit b) (bit_by_bit (replicate (times - (k + 1)) b)) to r x m e w))

  pub Repeating-end : {k : ℕ} {to : P} → Repeating K b times from k to → k ≡ times
      → WritesAll K (bit_by_bit (replicate times b)) from (Ok tt) to
  Repeating-end {k = k} {to = to} h all =
      let none : times - k ≡ 0 = omega arith in
      h.on (Ok tt) to (rw none (all_none K to))

module _ {P : Type 0} (K : Sink P) (stop : Bool) (most k : ℕ) where
  parts : bit_by_bit (unary stop k) ≡ bit_by_bit (replicate k (not stop)) ++ bit stop ∷ []
  parts = map-append bit (replicate k (not stop)) (stop ∷ [])

  -- the digits of a number and the stop digit, or digits that fail
  pub number-done : k < most → (old mid new : P) (r : Result (Unit {0}) Error)
      → WritesAll K (bit_by_bit (replicate k (not stop))) old (Ok tt) mid → Writes K (bit stop) mid r new
      → WritesAll K (bit_by_bit (limited_unary stop most (Some k))) old r new
  number-done less old mid new r h w =
      rw (lt-ltb k most less, parts) (all_append K (bit_by_bit (replicate k (not stop))) (bit stop ∷ []) old mid r new h
      (all_one K (bit stop) mid r new w))

  pub number-refused : k < most → (old new : P) (x : Error) (r : Result (Unit {0}) Error) → r ≡ Err x
      → WritesAll K (bit_by_bit (replicate k (not stop))) old (Err x) new
      → WritesAll K (bit_by_bit (limited_unary stop most (Some k))) old r new
  number-refused less old new x r e h =
      rw (lt-ltb k most less, parts) (all_stop K (bit_by_bit (replicate k (not stop))) (bit stop ∷ []) old x r new e h)

  -- a number that has no code word
  pub number-unknown : most ≤ k → (s : P) → WritesAll K (bit_by_bit (limited_unary stop most (Some k))) s (Ok tt) s
  number-unknown more s = rw (le-ltb k most more) (all_none K s)
