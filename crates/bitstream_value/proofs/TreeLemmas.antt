-- Paths: none begins another, and what a read takes is one.
use Rattle.std.proofs.Common.{◌≡◌, ◌⊎◌, ℕ, suc, ◌+◌, ◌≤◌, inl, inr, Bool, true, false, cond, List, [], ◌∷◌, ◌++◌, length, take, Option, Some, None, Result, Ok, refl, sym, ap, ◌∙◌, subst, arith}
use Rattle.std.specs.Prelude.{if◌then◌else◌, IsSome, ◌↔◌}
use Rattle.std.specs.Option.{option_map}
use Rattle.std.proofs.lemmas.Bool.{le-leb}
use Rattle.bitstream_count.specs.declared.error.Error.{Error}
use Rattle.bitstream_count.specs.Codec.{Prefix, Incomplete, Done, advance, and_then, pure}
use Rattle.bitstream_stream.specs.Reading.ReadTable.{bit_decoder}
use Rattle.bitstream_stream.proofs.Reading.CodecLemmas.{and_then-ok, and_then-none}
use Rattle.bitstream_value.specs.Tree.{Tree, leaf, node, IsPath, path_decoder, IsBefore, IsFirstPath, or_else, first_path, symbol_word}
use Rattle.bitstream_stream.proofs.Reading.UnaryReads.{bit_prefix}

abbrev none : Option (List Bool)
none = None

abbrev some : List Bool → Option (List Bool)
some w = Some w

pub paths_apart : {S : Type 0} (t : Tree S) (u v x y : List Bool) (a b : S) → IsPath t u a → IsPath t v b → u ++ x ≡ v
    ++ y → (u ≡ v) × (a ≡ b)
paths_apart (leaf s) [] [] x y a b p q e = (refl, sym p ∙ q)
paths_apart (leaf s) [] (c ∷ v) x y a b p q e = absurd q
paths_apart (leaf s) (c ∷ u) v x y a b p q e = absurd p
paths_apart (node l r) [] v x y a b p q e = absurd p
paths_apart (node l r) (false ∷ u) [] x y a b p q e = absurd q
paths_apart (node l r) (true ∷ u) [] x y a b p q e = absurd q
paths_apart (node l r) (false ∷ u) (false ∷ v) x y a b p q e =
    let same = paths_apart l u v x y a b p q (cc) in (ap (λ (w : List Bool). false ∷ w) same.0, same.1)
paths_apart (node l r) (true ∷ u) (true ∷ v) x y a b p q e =
    let same = paths_apart r u v x y a b p q (cc) in (ap (λ (w : List Bool). true ∷ w) same.0, same.1)
paths_apart (node l r) (false ∷ u) (true ∷ v) x y a b p q e = absurd cc
paths_apart (node l r) (true ∷ u) (false ∷ v) x y a b p q e = absurd cc

-- ---- reading

pub path_decoder-leaf : {S : Type 0} (x : S) → path_decoder (leaf x) ≡ pure x
unfolding path_decoder
path_decoder-leaf x = refl

pub path_decoder-node : {S : Type 0} (a b : Tree S) → path_decoder (node a b)
    ≡ and_then bit_decoder (λ c. if c then path_decoder b else path_decoder a)
unfolding path_decoder
path_decoder-node a b = refl

-- a read of a branch, after its bit
path-step : {S : Type 0} (a b : Tree S) (p : ℕ) (c : Bool) (bits : List Bool)
    → (path_decoder (node a b)).reads p (c ∷ bits) ≡ advance 1
    ((if c then path_decoder b else path_decoder a).reads (p + 1) bits)
path-step a b p c bits = rw path_decoder-node (and_then-ok bit_decoder (λ d. if d then path_decoder b else path_decoder a) p
    (c ∷ bits) 1 c (bit_prefix p c bits))

pub path-reads : {S : Type 0} (t : Tree S) (w : List Bool) (s : S) (p : ℕ) (rest : List Bool) → IsPath t w s
    → (path_decoder t).reads p (w ++ rest) ≡ Done (length w) (Ok s)
path-reads (leaf x) [] s p rest h = rw path_decoder-leaf (ap (λ y. Done 0 (Ok y)) h)
path-reads (leaf x) (c ∷ w) s p rest h = absurd h
path-reads (node a b) [] s p rest h = absurd h
path-reads (node a b) (false ∷ w) s p rest h = rw (path-step a b p false (w ++ rest), path-reads a w s (p + 1) rest h)
    (ap (λ n. Done n (Ok s)) (omega arith))
path-reads (node a b) (true ∷ w) s p rest h = rw (path-step a b p true (w ++ rest), path-reads b w s (p + 1) rest h)
    (ap (λ n. Done n (Ok s)) (omega arith))

-- the bits that a read takes are the path to the leaf whose symbol it returns
pub record TakesPath {S : Type 0} (t : Tree S) (bits : List Bool) (n : ℕ) (r : Result S Error) : Type 0 where
  pub symbol : S
  pub answer : r ≡ Ok symbol
  pub path : IsPath t (take n bits) symbol
  pub there : n ≤ length bits

in_side : {S : Type 0} (a b : Tree S) (c : Bool) (w : List Bool) (s : S) → IsPath (if c then b else a) w s
    → IsPath (node a b) (c ∷ w) s
in_side a b false w s h = h
in_side a b true w s h = h

behind : {S : Type 0} (a b : Tree S) (c : Bool) (bits : List Bool) (n : ℕ) (r : Result S Error) (f : Prefix S)
    → ((m : ℕ) → f ≡ Done m r → TakesPath (if c then b else a) bits m r)
    → advance 1 f ≡ Done n r → TakesPath (node a b) (c ∷ bits) n r
behind a b c bits n r Incomplete h e = absurd cc
behind a b c bits n r (Done m x) h e =
    let same : x ≡ r = cc in
    let size : 1 + m ≡ n = cc in
    let k = h m (ap (Done m) same) in
    let more : suc m ≡ n = omega (arith, size) in
    record {
      symbol = k.symbol;
      answer = k.answer;
      path = subst (λ i. IsPath (node a b) (take i (c ∷ bits)) k.symbol) more
          (in_side a b c (take m bits) k.symbol k.path);
      there = let le = k.there in omega (arith, size);
    }

pub path-taken : {S : Type 0} (t : Tree S) (p : ℕ) (bits : List Bool) (n : ℕ) (r : Result S Error)
    → (path_decoder t).reads p bits ≡ Done n r → TakesPath t bits n r
path-taken (leaf x) p bits n r e =
    let h = rw path_decoder-leaf at e in
    let none : 0 ≡ n = cc in
    let answer : Ok x ≡ r = cc in
    record {
      symbol = x;
      answer = sym answer;
      path = subst (λ i. IsPath (leaf x) (take i bits) x) none refl;
      there = omega arith;
    }
path-taken (node a b) p [] n r e =
    let h = rw path_decoder-node at e in
    let none : (and_then bit_decoder (λ c. if c then path_decoder b else path_decoder a)).reads p [] ≡ Incomplete =
    and_then-none bit_decoder (λ c. if c then path_decoder b else path_decoder a) p [] refl in
    absurd (cc (h, none))
path-taken (node a b) p (false ∷ bits) n r e = behind a b false bits n r ((path_decoder a).reads (p + 1) bits)
    (λ m. path-taken a (p + 1) bits m r) (sym (path-step a b p false bits) ∙ e)
path-taken (node a b) p (true ∷ bits) n r e = behind a b true bits n r ((path_decoder b).reads (p + 1) bits)
    (λ m. path-taken b (p + 1) bits m r) (sym (path-step a b p true bits) ∙ e)

-- ---- the first path

module _ {S : Type 0} (same : S → S → Bool) (s : S) where
  Leads : Tree S → List Bool → Type 0
  Leads t w = (x : S) × IsPath t w x × (same x s ≡ true)

  leaf_leads : (b : Bool) (x : S) (w : List Bool) → same x s ≡ b → cond b (some []) none ≡ some w → Leads (leaf x) w
  unfolding Leads
  leaf_leads true x [] h e = (x, refl, h)
  leaf_leads true x (c ∷ w) h e = absurd cc
  leaf_leads false x w h e = absurd cc

  node_leads : (l r : Tree S) (w : List Bool) (a b : Option (List Bool)) → ((u : List Bool) → a ≡ Some u → Leads l u)
      → ((u : List Bool) → b ≡ Some u → Leads r u)
      → or_else (option_map (λ u. false ∷ u) a) (option_map (λ u. true ∷ u) b) ≡ Some w → Leads (node l r) w
  unfolding Leads
  node_leads l r [] (Some u) b f g e = absurd cc
  node_leads l r (false ∷ w) (Some u) b f g e = f w cc
  node_leads l r (true ∷ w) (Some u) b f g e = absurd cc
  node_leads l r [] None (Some u) f g e = absurd cc
  node_leads l r (false ∷ w) None (Some u) f g e = absurd cc
  node_leads l r (true ∷ w) None (Some u) f g e = g w cc
  node_leads l r w None None f g e = absurd cc

  first_path_leads : (t : Tree S) (w : List Bool) → first_path same t s ≡ Some w → Leads t w
  first_path_leads (leaf x) w e = leaf_leads (same x s) x w refl e
  first_path_leads (node l r) w e = node_leads l r w (first_path same l s) (first_path same r s) (first_path_leads l)
      (first_path_leads r) e

  -- there is one, where there is a leaf, and it does not come after that
  Comes : Tree S → List Bool → Type 0
  Comes t u = (w : List Bool) × (first_path same t s ≡ Some w) × ((w ≡ u) ⊎ IsBefore w u)

  on_one_side : (l r : Tree S) (u : List Bool) (a : Option (List Bool)) → first_path same l s ≡ a → Comes r u
      → Comes (node l r) (true ∷ u)
  unfolding Comes
  on_one_side l r u None e c = (
    true ∷ c.0,
    rw (e, c.1) refl,
    elim c.2 [
      | inl same_path ↦
          inl (ap (λ (w : List Bool). true ∷ w) same_path)
      | inr earlier ↦ inr earlier
    ],
  )
  on_one_side l r u (Some w) e c = (false ∷ w, rw e refl, inr tt)

  first_path_comes : (t : Tree S) (u : List Bool) (x : S) → IsPath t u x → same x s ≡ true → Comes t u
  unfolding Comes
  first_path_comes (leaf y) [] x p h = let h' : same y s ≡ true = ap (λ z. same z s) p ∙ h in ([], rw h' refl, inl refl)
  first_path_comes (leaf y) (b ∷ u) x p h = absurd p
  first_path_comes (node l r) [] x p h = absurd p
  first_path_comes (node l r) (false ∷ u) x p h =
      let c = first_path_comes l u x p h in (
        false ∷ c.0,
        rw c.1 refl,
        elim c.2 [
          | inl same_path ↦
              inl (ap (λ (w : List Bool). false ∷ w) same_path)
          | inr earlier ↦ inr earlier
        ],
      )
  first_path_comes (node l r) (true ∷ u) x p h = on_one_side l r u (first_path same l s) refl
      (first_path_comes r u x p h)

  pub first_path_is_first : (t : Tree S) (w : List Bool) → first_path same t s ≡ Some w → IsFirstPath same t s w
  unfolding Leads Comes
  first_path_is_first t w e =
      record {
        leads = first_path_leads t w e;
        first = λ u x p h. let c = first_path_comes t u x p h in let same_path : c.0 ≡ w = cc (c.1, e) in
            subst (λ (v : List Bool). (v ≡ u) ⊎ IsBefore v u) same_path c.2;
      }

  -- there is none only if no leaf has the symbol
  pub first_path_none : (t : Tree S) → first_path same t s ≡ None → (u : List Bool) (x : S) → IsPath t u x → same x s
      ≡ true → ⊥
  unfolding Comes
  first_path_none t e u x p h = let c = first_path_comes t u x p h in absurd (cc (c.1, e))

-- ---- code words

module _ {S : Type 0} (same : S → S → Bool) (s : S) where
  pub word-some : (t : Tree S) (w : List Bool) → first_path same t s ≡ Some w → symbol_word same t s ≡ w
  unfolding symbol_word
  word-some t w e = rw e refl

  pub word-none : (t : Tree S) → first_path same t s ≡ None → symbol_word same t s ≡ []
  unfolding symbol_word
  word-none t e = rw e refl

  has_leaf : (t : Tree S) (o : Option (List Bool)) → first_path same t s ≡ o → IsSome o → (w : List Bool) × (x : S)
      × IsPath t w x × (same x s ≡ true)
  has_leaf t None e h = absurd cc
  has_leaf t (Some w) e h = let k = (first_path_is_first same s t w e).leads in (w, k.0, k.1, k.2)

  has_word : (t : Tree S) (o : Option (List Bool)) (w : List Bool) (x : S) → first_path same t s ≡ o → IsPath t w x
      → same x s ≡ true → IsSome o
  has_word t None w x e p h = absurd (first_path_none same s t e w x p h)
  has_word t (Some v) w x e p h = refl

  -- a symbol has a code word exactly where a leaf has it
  pub word_known : (t : Tree S) → IsSome (first_path same t s) ↔ ((w : List Bool) × (x : S) × IsPath t w x
      × (same x s ≡ true))
  word_known t = (has_leaf t (first_path same t s) refl, λ k. has_word t (first_path same t s) k.0 k.1 refl k.2 k.3)

  -- and the code word is read as that leaf's symbol
  pub word_back : (t : Tree S) (w : List Bool) → first_path same t s ≡ Some w → (x : S) × (same x s ≡ true)
      × ((p : ℕ) (more : List Bool) → (path_decoder t).reads p (w ++ more) ≡ Done (length w) (Ok x))
  word_back t w e = let k = (first_path_is_first same s t w e).leads in
      (k.0, k.2, λ p more. path-reads t w k.0 p more k.1)
