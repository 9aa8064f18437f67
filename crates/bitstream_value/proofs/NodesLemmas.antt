-- Nodes of trees: which tree is where, the nodes of two trees in one list, and the way to a symbol's first leaf.
use Rattle.std.proofs.Common.{◌≡◌, ◌⊎◌, inl, inr, ℕ, zero, suc, ◌+◌, ◌-◌, ◌^◌, ◌<◌, ◌≤◌, Bool, true, false, eqb, List, [], ◌∷◌, ◌++◌, length, map, take, get_or, Option, Some, None, refl, sym, ap, ◌∙◌, subst, arith, length-append}
use Rattle.std.specs.Prelude.{slice_get, is_some, if◌then◌else◌, nat_le, MatchOption}
use Rattle.std.specs.Option.{option_map}
use Rattle.std.proofs.lemmas.Bool.{cases_lt, lt-ltb, le-ltb, lt-leb, le-leb, eqb-true, eq-eqb}
use Rattle.std.proofs.lemmas.Bool.Decides.{eqb_tells}
use Rattle.std.proofs.lemmas.List.{length-map, length-take-le}
use Rattle.std.proofs.Math.Seq.{take-length}
use Rattle.std.proofs.lemmas.Option.{cond_some, slice_get-map, slice_get_read, slice_get_within}
use Rattle.bitstream_value.specs.Tree.{Tree, leaf, node, first_path, symbol_word}
use Rattle.bitstream_value.specs.HuffmanTree.{value_of, nodes_of, tree_of}
use Rattle.bitstream_value.specs.Nodes.{both, nodes_tree, tree_behind, tree_between, shift_node, FitsShifted, Joined, HasSymbol, IsFirstPlace, FindsFirst}
use Rattle.bitstream_value.specs.declared.huffman.tree.HuffmanTree.{HuffmanTree}
use Rattle.bitstream_value.specs.declared.huffman.tree.Node.{Node}
use Rattle.bitstream_value.specs.declared.huffman.tree.Node.TheVariants.{Leaf, Branch}

-- ---- elements

get-left : {A : Type 0} (xs ys : List A) (k : ℕ) (x : A) → slice_get xs k ≡ Some x → slice_get (xs ++ ys) k ≡ Some x
get-left [] ys k x e = absurd cc
get-left (y ∷ xs) ys zero x e = e
get-left (y ∷ xs) ys (suc k) x e = get-left xs ys k x e

get-right : {A : Type 0} (xs ys : List A) (k n : ℕ) → k + length xs ≡ n → slice_get (xs ++ ys) n ≡ slice_get ys k
get-right [] ys k n e = let same : n ≡ k = omega arith in rw same refl
get-right (x ∷ xs) ys k zero e = absurd (omega arith)
get-right (x ∷ xs) ys k (suc n) e = get-right xs ys k n (omega arith)

-- ---- the tree whose nodes lie from a place up to another

-- the places of a branch, and those of its two sides
pub record Sides {S : Type 0} (nodes : List (Node S)) (A B : ℕ → ℕ → Type 0) (low end : ℕ) : Type 0 where
  pub zero_root : ℕ
  pub one_root : ℕ
  pub root : slice_get nodes (end - 1) ≡ Some (Branch zero_root one_root)
  pub sides : ((zero_root < one_root) × (end ≡ one_root + 2) × A low (zero_root + 1) × B (zero_root + 1) (one_root + 1))
      ⊎ ((one_root ≤ zero_root) × (end ≡ zero_root + 2) × A (one_root + 1) (zero_root + 1) × B low (one_root + 1))

abbrev pub Stands : {S : Type 0} → List (Node S) → Tree S → ℕ → ℕ → Type 0
Stands nodes (leaf x) low end = (end ≡ low + 1) × (slice_get nodes low ≡ Some (Leaf x))
Stands nodes (node a b) low end = Sides nodes (Stands nodes a) (Stands nodes b) low end

pub Stands-some : {S : Type 0} (nodes : List (Node S)) (t : Tree S) (low end : ℕ) → Stands nodes t low end → low < end
Stands-some nodes (leaf x) low end h = let e = h.0 in omega arith
Stands-some nodes (node a b) low end h = elim h.sides [
  | inl k ↦ let e = k.1 in omega (arith, Stands-some nodes a low (h.zero_root + 1) k.2, k.0)
  | inr k ↦ let e = k.1 in omega (arith, Stands-some nodes b low (h.one_root + 1) k.3, k.0)
]

Stands-at : {S : Type 0} (nodes : List (Node S)) (t : Tree S) (low end low' end' : ℕ) → low ≡ low' → end ≡ end'
    → Stands nodes t low end → Stands nodes t low' end'
Stands-at nodes t low end low' end' p q h = subst (λ i. Stands nodes t i end') p (subst (λ i. Stands nodes t low i) q h)

pub Stands-within : {S : Type 0} (nodes : List (Node S)) (t : Tree S) (low end : ℕ) → Stands nodes t low end
    → end ≤ length nodes
Stands-within nodes (leaf x) low end h = let e = h.0 in let below = slice_get_within nodes low (Leaf x) h.1 in
    omega arith
Stands-within nodes (node a b) low end h = let below =
    slice_get_within nodes (end - 1) (Branch h.zero_root h.one_root) h.root in omega arith

-- ---- as the nodes are read

between-suc : {S : Type 0} (nodes : List (Node S)) (n low end : ℕ) → tree_between nodes (suc n) low end
    ≡ tree_behind (tree_between nodes n) (slice_get nodes (end - 1)) low end
unfolding tree_between
between-suc nodes n low end = refl

between-zero : {S : Type 0} (nodes : List (Node S)) (low end : ℕ) → tree_between nodes 0 low end ≡ None
unfolding tree_between
between-zero nodes low end = refl

pub Stands-between : {S : Type 0} (nodes : List (Node S)) (t : Tree S) (n low end : ℕ) → end ≤ n
    → Stands nodes t low end → tree_between nodes n low end ≡ Some t
Stands-between nodes t zero low end le h = absurd (omega (arith, Stands-some nodes t low end h))
Stands-between nodes (leaf x) (suc n) low end le h =
    let place : end - 1 ≡ low = let e = h.0 in omega arith in
    rw (between-suc, place, h.1, eq-eqb end (low + 1) h.0) refl
Stands-between nodes (node a b) (suc n) low end le h =
    let z = h.zero_root in
    let o = h.one_root in
    elim h.sides [
      | inl k ↦
          let size = k.1 in
          let less = k.0 in
          let left = Stands-between nodes a n low (z + 1) (omega arith) k.2 in
          let right = Stands-between nodes b n (z + 1) (o + 1) (omega arith) k.3 in
          rw (between-suc, h.root, lt-ltb z o k.0, eq-eqb end (o + 2) k.1, left, right) refl
      | inr k ↦
          let size = k.1 in
          let less = k.0 in
          let left = Stands-between nodes a n (o + 1) (z + 1) (omega arith) k.2 in
          let right = Stands-between nodes b n low (o + 1) (omega arith) k.3 in
          rw (between-suc, h.root, le-ltb z o k.0, eq-eqb end (z + 2) k.1, left, right) refl
    ]

record Both {S : Type 0} (x y : Option (Tree S)) (t : Tree S) : Type 0 where
  first : Tree S
  second : Tree S
  is_first : x ≡ Some first
  is_second : y ≡ Some second
  is : node first second ≡ t

Both-from : {S : Type 0} (x y : Option (Tree S)) (t : Tree S) → both x y ≡ Some t → Both x y t
Both-from None y t e = absurd cc
Both-from (Some a) None t e = absurd cc
Both-from (Some a) (Some b) t e = record { first = a; second = b; is_first = refl; is_second = refl; is = cc }

Stands-behind : {S : Type 0} (nodes : List (Node S)) (f : ℕ → ℕ → Option (Tree S)) (r : Option (Node S))
    (low end : ℕ) (t : Tree S) → ((l e : ℕ) (u : Tree S) → f l e ≡ Some u → Stands nodes u l e)
    → slice_get nodes (end - 1) ≡ r → tree_behind f r low end ≡ Some t → Stands nodes t low end
Stands-behind nodes f None low end t h g e = absurd cc
Stands-behind nodes f (Some (Leaf x)) low end t h g e =
    let k = cond_some (eqb end (low + 1)) (leaf x) t e in
    let size = eqb-true end (low + 1) k.0 in
    let place : end - 1 ≡ low = omega arith in
    subst (λ u. Stands nodes u low end) k.1 (size, rw place at g)
Stands-behind nodes f (Some (Branch z o)) low end t h g e = elim (cases_lt z o) [
  | inl less ↦
      let e' = rw (lt-ltb z o less) at e in
      elim (eqb_tells end (o + 2)) [
        | inl same ↦
            let k = Both-from (f low (z + 1)) (f (z + 1) (o + 1)) t (rw same.0 at e') in
            subst (λ u. Stands nodes u low end) k.is (record {
              zero_root = z;
              one_root = o;
              root = g;
              sides = inl (less, same.1, h low (z + 1) k.first k.is_first, h (z + 1) (o + 1) k.second k.is_second);
            })
        | inr other ↦ absurd (let none = rw other.0 at e' in cc)
      ]
  | inr more ↦
      let e' = rw (le-ltb z o more) at e in
      elim (eqb_tells end (z + 2)) [
        | inl same ↦
            let k = Both-from (f (o + 1) (z + 1)) (f low (o + 1)) t (rw same.0 at e') in
            subst (λ u. Stands nodes u low end) k.is (record {
              zero_root = z;
              one_root = o;
              root = g;
              sides = inr (more, same.1, h (o + 1) (z + 1) k.first k.is_first, h low (o + 1) k.second k.is_second);
            })
        | inr other ↦ absurd (let none = rw other.0 at e' in cc)
      ]
]

pub between-Stands : {S : Type 0} (nodes : List (Node S)) (n low end : ℕ) (t : Tree S) → tree_between nodes n low end
    ≡ Some t → Stands nodes t low end
between-Stands nodes zero low end t e = let none = between-zero nodes low end in absurd cc
between-Stands nodes (suc n) low end t e =
    Stands-behind nodes (tree_between nodes n) (slice_get nodes (end - 1)) low end t (between-Stands nodes n) refl
    (sym (between-suc nodes n low end) ∙ e)

-- ---- the tree of all nodes

value_of-there : {T : Type 0} (o : Option T) (there : is_some o ≡ true) → o ≡ Some (value_of o there)
value_of-there None there = absurd cc
value_of-there (Some x) there = refl

value_of-is : {T : Type 0} (o : Option T) (there : is_some o ≡ true) (x : T) → o ≡ Some x → value_of o there ≡ x
value_of-is None there x e = absurd cc
value_of-is (Some y) there x e = cc

pub tree_of-stands : {S A : Type 0} (code : HuffmanTree S A)
    → Stands (nodes_of code) (tree_of code) 0 (length (nodes_of code))
unfolding tree_of
tree_of-stands code =
    between-Stands (nodes_of code) (length (nodes_of code)) 0 (length (nodes_of code))
    (value_of (nodes_tree (nodes_of code)) code.has_tree)
    (value_of-there (nodes_tree (nodes_of code)) code.has_tree)

pub stands-nodes_of : {S : Type 0} (nodes : List (Node S)) (t : Tree S) → Stands nodes t 0 (length nodes)
    → nodes_tree nodes ≡ Some t
stands-nodes_of nodes t h = Stands-between nodes t (length nodes) 0 (length nodes) (omega arith) h

pub stands-has_tree : {S : Type 0} (nodes : List (Node S)) (t : Tree S) → Stands nodes t 0 (length nodes)
    → is_some (nodes_tree nodes) ≡ true
stands-has_tree nodes t h = ap is_some (stands-nodes_of nodes t h)

pub stands-tree_of : {S A : Type 0} (code : HuffmanTree S A) (t : Tree S)
    → Stands (nodes_of code) t 0 (length (nodes_of code)) → tree_of code ≡ t
unfolding tree_of
stands-tree_of code t h = value_of-is (nodes_tree (nodes_of code)) code.has_tree t (stands-nodes_of (nodes_of code) t h)

pub stands-leaf : {S : Type 0} (nodes : List (Node S)) (x : S) → nodes ≡ Leaf x ∷ []
    → Stands nodes (leaf x) 0 (length nodes)
stands-leaf nodes x e = rw e (refl, refl)

-- the nodes of a tree have a root
pub nodes_of-some : {S A : Type 0} (code : HuffmanTree S A) → 0 < length (nodes_of code)
nodes_of-some code = Stands-some (nodes_of code) (tree_of code) 0 (length (nodes_of code)) (tree_of-stands code)

-- ---- the nodes of two trees in one list

-- the first k of the nodes that are put after others
pub length-moved : {S : Type 0} (xs ys zs : List (Node S)) (n k : ℕ) → zs ≡ xs ++ map (shift_node n) (take k ys)
    → k ≤ length ys → length zs ≡ length xs + k
length-moved xs ys zs n k e le =
    ap length e ∙ length-append xs (map (shift_node n) (take k ys))
    ∙ ap (λ i. length xs + i) (length-map (take k ys) (shift_node n) ∙ length-take-le k ys le)

pub moved-all : {S : Type 0} (xs ys zs : List (Node S)) (n k : ℕ) → zs ≡ xs ++ map (shift_node n) (take k ys) → k ≡ length ys
    → zs ≡ xs ++ map (shift_node n) ys
moved-all xs ys zs n k e all = e ∙ ap (λ us. xs ++ map (shift_node n) us) (ap (λ i. take i ys) all ∙ take-length ys)

Stands-kept : {S : Type 0} (xs ys : List (Node S)) (t : Tree S) (low end : ℕ) → Stands xs t low end
    → Stands (xs ++ ys) t low end
Stands-kept xs ys (leaf x) low end h = (h.0, get-left xs ys low (Leaf x) h.1)
Stands-kept xs ys (node a b) low end h =
    let z = h.zero_root in
    let o = h.one_root in
    record {
      zero_root = z;
      one_root = o;
      root = get-left xs ys (end - 1) (Branch z o) h.root;
      sides = elim h.sides [
        | inl k ↦ inl (k.0, k.1, Stands-kept xs ys a low (z + 1) k.2, Stands-kept xs ys b (z + 1) (o + 1) k.3)
        | inr k ↦ inr (k.0, k.1, Stands-kept xs ys a (o + 1) (z + 1) k.2, Stands-kept xs ys b low (o + 1) k.3)
      ];
    }

get-moved : {S : Type 0} (xs ys : List (Node S)) (k n : ℕ) (x : Node S) → k + length xs ≡ n → slice_get ys k ≡ Some x
    → slice_get (xs ++ map (shift_node (length xs)) ys) n ≡ Some (shift_node (length xs) x)
get-moved xs ys k n x place e = get-right xs (map (shift_node (length xs)) ys) k n place
    ∙ slice_get-map (shift_node (length xs)) ys k ∙ ap (option_map (shift_node (length xs))) e

Stands-moved : {S : Type 0} (xs ys : List (Node S)) (t : Tree S) (low end : ℕ) → Stands ys t low end
    → Stands (xs ++ map (shift_node (length xs)) ys) t (low + length xs) (end + length xs)
Stands-moved xs ys (leaf x) low end h = (
  let e = h.0 in omega arith,
  get-moved xs ys low (low + length xs) (Leaf x) refl h.1,
)
Stands-moved xs ys (node a b) low end h =
    let z = h.zero_root in
    let o = h.one_root in
    let n = length xs in
    let zs = xs ++ map (shift_node (length xs)) ys in
    let some : 0 < end = omega (arith, Stands-some ys (node a b) low end h) in
    record {
      zero_root = z + n;
      one_root = o + n;
      root = get-moved xs ys (end - 1) (end + n - 1) (Branch z o) (omega arith) h.root;
      sides = elim h.sides [
        | inl k ↦
            let size = k.1 in
            let less = k.0 in
            inl (
              omega arith,
              omega arith,
              Stands-at zs a (low + n) ((z + 1) + n) (low + n) ((z + n) + 1) refl
                  (omega arith) (Stands-moved xs ys a low (z + 1) k.2),
              Stands-at zs b ((z + 1) + n) ((o + 1) + n) ((z + n) + 1) ((o + n) + 1) (omega arith) (omega arith)
                  (Stands-moved xs ys b (z + 1) (o + 1) k.3),
            )
        | inr k ↦
            let size = k.1 in
            let less = k.0 in
            inr (
              omega arith,
              omega arith,
              Stands-at zs a ((o + 1) + n) ((z + 1) + n) ((o + n) + 1) ((z + n) + 1)
                  (omega arith) (omega arith) (Stands-moved xs ys a (o + 1) (z + 1) k.2),
              Stands-at zs b (low + n) ((o + 1) + n) (low + n) ((o + n) + 1) refl (omega arith)
                  (Stands-moved xs ys b low (o + 1) k.3),
            )
      ];
    }

get-end : {A : Type 0} (xs : List A) (x : A) → slice_get (xs ++ x ∷ []) (length xs) ≡ Some x
get-end xs x = get-right xs (x ∷ []) 0 (length xs) (omega arith)

nodes_of-end : {S : Type 0} (xs ys : List (Node S)) (z o : ℕ)
    → slice_get ((xs ++ map (shift_node (length xs)) ys) ++ Branch z o ∷ []) (length xs + length ys) ≡ Some (Branch z o)
nodes_of-end xs ys z o =
    let zs = xs ++ map (shift_node (length xs)) ys in
    let size : length zs ≡ length xs + length ys = length-append xs (map (shift_node (length xs)) ys)
    ∙ ap (λ n. length xs + n) (length-map ys (shift_node (length xs))) in
    subst (λ n. slice_get (zs ++ Branch z o ∷ []) n ≡ Some (Branch z o)) size (get-end zs (Branch z o))

-- the nodes of two trees, one after the other, with a branch after both
pub record Joins {S : Type 0} (xs ys : List (Node S)) (t u : Tree S) : Type 0 where
  pub first : Stands xs t 0 (length xs)
  pub second : Stands ys u 0 (length ys)

module _ {S : Type 0} (xs ys : List (Node S)) (t u : Tree S) (h : Joins xs ys t u) (z o : ℕ) where
  whole : List (Node S)
  whole = (xs ++ map (shift_node (length xs)) ys) ++ Branch z o ∷ []

  first_side : (end : ℕ) → length xs ≡ end → Stands whole t 0 end
  unfolding whole
  first_side end e =
      Stands-at whole t 0 (length xs) 0 end refl e
      (Stands-kept (xs ++ map (shift_node (length xs)) ys) (Branch z o ∷ []) t 0 (length xs)
      (Stands-kept xs (map (shift_node (length xs)) ys) t 0 (length xs) h.first))

  second_side : (low end : ℕ) → length xs ≡ low → length ys + length xs ≡ end → Stands whole u low end
  unfolding whole
  second_side low end p q =
      Stands-at whole u (0 + length xs) (length ys + length xs) low end (omega arith) q
      (Stands-kept (xs ++ map (shift_node (length xs)) ys) (Branch z o ∷ []) u (0 + length xs) (length ys + length xs)
      (Stands-moved xs ys u 0 (length ys) h.second))

  root-at : (end : ℕ) → end ≡ length xs + length ys + 1 → slice_get whole (end - 1) ≡ Some (Branch z o)
  unfolding whole
  root-at end e =
      let place : end - 1 ≡ length xs + length ys = omega arith in
      rw place (nodes_of-end xs ys z o)

  pub zero-first : z + 1 ≡ length xs → o + 1 ≡ length xs + length ys
      → Stands ((xs ++ map (shift_node (length xs)) ys) ++ Branch z o ∷ []) (node t u) 0 (length xs + length ys + 1)
  unfolding whole
  zero-first p q =
      let some = Stands-some ys u 0 (length ys) h.second in
      record {
        zero_root = z;
        one_root = o;
        root = root-at (length xs + length ys + 1) refl;
        sides = inl (
          omega arith,
          omega arith,
          first_side (z + 1) (sym p),
          second_side (z + 1) (o + 1) (sym p) (omega arith),
        );
      }

  pub one-first : o + 1 ≡ length xs → z + 1 ≡ length xs + length ys
      → Stands ((xs ++ map (shift_node (length xs)) ys) ++ Branch z o ∷ []) (node u t) 0 (length xs + length ys + 1)
  unfolding whole
  one-first p q = record {
    zero_root = z;
    one_root = o;
    root = root-at (length xs + length ys + 1) refl;
    sides = inr (
      omega arith,
      omega arith,
      second_side (o + 1) (z + 1) (sym p) (omega arith),
      first_side (o + 1) (sym p),
    );
  }

-- what `joined` makes of the nodes of two trees, and a branch after them
module _ {S A : Type 0} (first second : HuffmanTree S A) (nodes : List (Node S)) (m n : ℕ)
    (h : Joined (nodes_of first) (nodes_of second) nodes m n) where
  trees : Joins (nodes_of first) (nodes_of second) (tree_of first) (tree_of second)
  trees = record { first = tree_of-stands first; second = tree_of-stands second }

  size-with : (ys : List (Node S)) (x : Node S) → ys ≡ nodes ++ x ∷ [] → length ys
      ≡ length (nodes_of first) + length (nodes_of second) + 1
  size-with ys x e =
      ap length e ∙ length-append nodes (x ∷ []) ∙ ap (λ zs. length zs + 1) h.nodes_are
      ∙ ap (λ i. i + 1) (length-append (nodes_of first) (map (shift_node (length (nodes_of first))) (nodes_of second))
      ∙ ap (λ i. length (nodes_of first) + i) (length-map (nodes_of second) (shift_node (length (nodes_of first)))))

  whole-is : (ys : List (Node S)) (x : Node S) → ys ≡ nodes ++ x ∷ [] → ys
      ≡ (nodes_of first ++ map (shift_node (length (nodes_of first))) (nodes_of second)) ++ x ∷ []
  whole-is ys x e = e ∙ ap (λ zs. zs ++ x ∷ []) h.nodes_are

  -- the first nodes_of is that of the side of 0
  pub joined-zero : (ys : List (Node S)) → ys ≡ nodes ++ Branch m n ∷ []
      → Stands ys (node (tree_of first) (tree_of second)) 0 (length ys)
  joined-zero ys e =
      let whole = (nodes_of first ++ map (shift_node (length (nodes_of first))) (nodes_of second)) ++ Branch m n ∷ [] in
      subst (λ (zs : List (Node S)). Stands zs (node (tree_of first) (tree_of second)) 0 (length ys))
      (sym (whole-is ys (Branch m n) e))
      (subst (λ i. Stands whole (node (tree_of first) (tree_of second)) 0 i) (sym (size-with ys (Branch m n) e))
      (zero-first (nodes_of first) (nodes_of second) (tree_of first) (tree_of second) trees m n h.first_ends
      h.second_ends))

  -- or that of the side of 1
  pub joined-one : (ys : List (Node S)) → ys ≡ nodes ++ Branch n m ∷ []
      → Stands ys (node (tree_of second) (tree_of first)) 0 (length ys)
  joined-one ys e =
      let whole = (nodes_of first ++ map (shift_node (length (nodes_of first))) (nodes_of second)) ++ Branch n m ∷ [] in
      subst (λ (zs : List (Node S)). Stands zs (node (tree_of second) (tree_of first)) 0 (length ys))
      (sym (whole-is ys (Branch n m) e))
      (subst (λ i. Stands whole (node (tree_of second) (tree_of first)) 0 i) (sym (size-with ys (Branch n m) e))
      (one-first (nodes_of first) (nodes_of second) (tree_of first) (tree_of second) trees n m h.first_ends
      h.second_ends))

-- ---- the way down

-- each branch is after the nodes of its sides
pub places-below : {S : Type 0} (nodes : List (Node S)) (t : Tree S) (low end k z o : ℕ) → Stands nodes t low end
    → low ≤ k → k < end → slice_get nodes k ≡ Some (Branch z o) → (z < k) × (o < k)
places-below nodes (leaf x) low end k z o h after below e =
    let size = h.0 in
    let place : low ≡ k = omega arith in
    let here = rw place at h.1 in
    absurd cc
places-below nodes (node a b) low end k z o h after below e =
    let y = h.zero_root in
    let n = h.one_root in
    elim (cases_lt k (end - 1)) [
      | inl inner ↦ elim h.sides [
        | inl s ↦
            let size = s.1 in
            elim (cases_lt k (y + 1)) [
              | inl left ↦ places-below nodes a low (y + 1) k z o s.2 after left e
              | inr right ↦ places-below nodes b (y + 1) (n + 1) k z o s.3 right (omega arith) e
            ]
        | inr s ↦
            let size = s.1 in
            elim (cases_lt k (n + 1)) [
              | inl left ↦ places-below nodes b low (n + 1) k z o s.3 after left e
              | inr right ↦ places-below nodes a (n + 1) (y + 1) k z o s.2 right (omega arith) e
            ]
      ]
      | inr last ↦
          let place : end - 1 ≡ k = omega arith in
          let here = rw place at h.root in
          let zero : z ≡ y = cc in
          let one : o ≡ n = cc in
          elim h.sides [
            | inl s ↦ let size = s.1 in let less = s.0 in (omega arith, omega arith)
            | inr s ↦ let size = s.1 in let less = s.0 in (omega arith, omega arith)
          ]
    ]

-- so its places are numbers of 64 bits where those of all nodes are, also further on
pub fits-moved : {S A : Type 0} (code : HuffmanTree S A) (n k : ℕ) (x : Node S) → x ≡ get_or (nodes_of code) k x
    → k < length (nodes_of code) → n + k < 2 ^ 64 → FitsShifted n x
fits-moved code n k (Leaf x) is below small = tt
fits-moved code n k (Branch z o) is below small =
    let there = slice_get_read (nodes_of code) (length (nodes_of code)) k (Branch z o) refl below is in
    let p = places-below (nodes_of code) (tree_of code) 0 (length (nodes_of code)) k z o (tree_of-stands code)
    (omega arith) below there in
    let z_below = p.0 in
    let o_below = p.1 in
    (omega arith, omega arith)

-- what a read of the leaf or branch after all others tells of its tree
pub leaf-is : {S : Type 0} (nodes : List (Node S)) (t : Tree S) (low root : ℕ) (x : S) → Stands nodes t low (root + 1)
    → slice_get nodes root ≡ Some (Leaf x) → t ≡ leaf x
leaf-is nodes (leaf y) low root x h e =
    let size = h.0 in
    let place : low ≡ root = omega arith in
    let here = rw place at h.1 in
    let same : y ≡ x = cc in
    ap leaf same
leaf-is nodes (node a b) low root x h e =
    let place : (root + 1) - 1 ≡ root = omega arith in
    let here = rw place at h.root in
    absurd cc

-- the two sides of a branch
pub record Parts {S : Type 0} (nodes : List (Node S)) (t : Tree S) (low root z o : ℕ) : Type 0 where
  pub zero_side : Tree S
  pub one_side : Tree S
  pub is : t ≡ node zero_side one_side
  pub sides : ((z < o) × (root ≡ o + 1) × Stands nodes zero_side low (z + 1) × Stands nodes one_side (z + 1) (o + 1))
      ⊎ ((o ≤ z) × (root ≡ z + 1) × Stands nodes zero_side (o + 1) (z + 1) × Stands nodes one_side low (o + 1))

pub branch-parts : {S : Type 0} (nodes : List (Node S)) (t : Tree S) (low root z o : ℕ) → Stands nodes t low (root + 1)
    → slice_get nodes root ≡ Some (Branch z o) → Parts nodes t low root z o
branch-parts nodes (leaf y) low root z o h e =
    let size = h.0 in
    let place : low ≡ root = omega arith in
    let here = rw place at h.1 in
    absurd cc
branch-parts nodes (node a b) low root z o h e =
    let place : (root + 1) - 1 ≡ root = omega arith in
    let here = rw place at h.root in
    let zero : h.zero_root ≡ z = cc in
    let one : h.one_root ≡ o = cc in
    record {
      zero_side = a;
      one_side = b;
      is = refl;
      sides = elim h.sides [
        | inl k ↦
            let size = k.1 in
            let less = k.0 in
            inl (
              omega arith,
              omega arith,
              Stands-at nodes a low (h.zero_root + 1) low (z + 1) refl (omega arith) k.2,
              Stands-at nodes b (h.zero_root + 1) (h.one_root + 1) (z + 1) (o + 1) (omega arith) (omega arith) k.3,
            )
        | inr k ↦
            let size = k.1 in
            let less = k.0 in
            inr (
              omega arith,
              omega arith,
              Stands-at nodes a (h.one_root + 1) (h.zero_root + 1) (o + 1) (z + 1)
                  (omega arith) (omega arith) k.2,
              Stands-at nodes b low (h.one_root + 1) low (o + 1) refl (omega arith)
                  k.3,
            )
      ];
    }

module _ {S : Type 0} (same : S → S → Bool) (s : S) (nodes : List (Node S)) where
  -- no leaf from a place up to another has the symbol
  Lacks : ℕ → ℕ → Type 0
  Lacks low end = (k : ℕ) → low ≤ k → k < end → HasSymbol same s nodes k → ⊥

  none-at : (x : S) (b : Bool) → same x s ≡ b → (b ≡ true → ⊥) → first_path same (leaf x) s ≡ None
  none-at x true e h = absurd (h refl)
  none-at x false e h = rw e refl

  none-in : (t : Tree S) (low end : ℕ) → Stands nodes t low end → Lacks low end → first_path same t s ≡ None
  unfolding Lacks
  none-in (leaf x) low end h lacks = let size = h.0 in
      none-at x (same x s) refl (λ e. lacks low (omega arith) (omega arith) (x, h.1, e))
  none-in (node a b) low end h lacks =
      let z = h.zero_root in
      let o = h.one_root in
      elim h.sides [
        | inl k ↦
            let size = k.1 in
            let less = k.0 in
            let left = none-in a low (z + 1) k.2 (λ i p q. lacks i p (omega arith)) in
            let right = none-in b (z + 1) (o + 1) k.3 (λ i p q. let more = Stands-some nodes a low (z + 1) k.2 in
            lacks i (omega arith) (omega arith)) in
            rw (left, right) refl
        | inr k ↦
            let size = k.1 in
            let less = k.0 in
            let left = none-in a (o + 1) (z + 1) k.2 (λ i p q. let more = Stands-some nodes b low (o + 1) k.3 in
            lacks i (omega arith) (omega arith)) in
            let right = none-in b low (o + 1) k.3 (λ i p q. lacks i p (omega arith)) in
            rw (left, right) refl
      ]

  HasPath : Tree S → Type 0
  HasPath t = (w : List Bool) × (first_path same t s ≡ Some w)

  on_zero_side : (a b : Tree S) (w : List Bool) → first_path same a s ≡ Some w → first_path same (node a b) s
      ≡ Some (false ∷ w)
  on_zero_side a b w e = rw e refl

  on_one_side : (a b : Tree S) (w : List Bool) → first_path same a s ≡ None → first_path same b s ≡ Some w
      → first_path same (node a b) s ≡ Some (true ∷ w)
  on_one_side a b w e f = rw (e, f) refl

  on_either : (a b : Tree S) (o : Option (List Bool)) → first_path same a s ≡ o → HasPath b → HasPath (node a b)
  unfolding HasPath
  on_either a b None e h = (true ∷ h.0, on_one_side a b h.0 e h.1)
  on_either a b (Some w) e h = (false ∷ w, on_zero_side a b w e)

  some-in : (t : Tree S) (low end k : ℕ) → Stands nodes t low end → low ≤ k → k < end → HasSymbol same s nodes k
      → HasPath t
  unfolding HasPath
  some-in (leaf x) low end k h after below has =
      let size = h.0 in
      let place : low ≡ k = omega arith in
      let here = rw place at h.1 in
      let there = has.1 in
      let is : has.0 ≡ x = cc in
      let yes : same x s ≡ true = ap (λ y. same y s) (sym is) ∙ has.2 in
      ([], rw yes refl)
  some-in (node a b) low end k h after below has =
      let z = h.zero_root in
      let o = h.one_root in
      let there = has.1 in
      elim (cases_lt k (end - 1)) [
        | inl inner ↦ elim h.sides [
          | inl i ↦
              let size = i.1 in
              elim (cases_lt k (z + 1)) [
                | inl left ↦ let p = some-in a low (z + 1) k i.2 after left has in
                    (false ∷ p.0, on_zero_side a b p.0 p.1)
                | inr right ↦ on_either a b (first_path same a s) refl
                    (some-in b (z + 1) (o + 1) k i.3 right (omega arith) has)
              ]
          | inr i ↦
              let size = i.1 in
              elim (cases_lt k (o + 1)) [
                | inl left ↦ on_either a b (first_path same a s) refl (some-in b low (o + 1) k i.3 after left has)
                | inr right ↦ let p = some-in a (o + 1) (z + 1) k i.2 right (omega arith) has in
                    (false ∷ p.0, on_zero_side a b p.0 p.1)
              ]
        ]
        | inr last ↦
            let place : end - 1 ≡ k = omega arith in
            let here = rw place at h.root in
            absurd cc
      ]

  -- the nodes of a tree from some place up to `root`, in which the symbol's first leaf is at `place`
  pub record Seeks (t : Tree S) (root place : ℕ) : Type 0 where
    pub low : ℕ
    pub stands : Stands nodes t low (root + 1)
    pub found : IsFirstPlace same s nodes low (root + 1) place

  -- a symbol that no leaf among the nodes has, has no path
  pub path-lacks : (t : Tree S) (end : ℕ) → Stands nodes t 0 end → FindsFirst same s nodes 0 end None
      → first_path same t s ≡ None
  unfolding Lacks
  path-lacks t end h none = none-in t 0 end h none

  -- a symbol that no leaf among the nodes has, has no code word
  pub word-lacks : (t : Tree S) (end : ℕ) → Stands nodes t 0 end → FindsFirst same s nodes 0 end None
      → symbol_word same t s ≡ []
  unfolding symbol_word Lacks
  word-lacks t end h none = rw (none-in t 0 end h none) refl

  word-leaf-by : (x : S) (b : Bool) → same x s ≡ b → symbol_word same (leaf x) s ≡ []
  unfolding symbol_word
  word-leaf-by x true e = rw e refl
  word-leaf-by x false e = rw e refl

  pub word-leaf : (x : S) → symbol_word same (leaf x) s ≡ []
  word-leaf x = word-leaf-by x (same x s) refl

  -- one step down: the side that the symbol's path takes, and the place of its first leaf there
  pub record Down (t : Tree S) (root place : ℕ) (c : Bool) : Type 0 where
    pub side : Tree S
    pub seeks : Seeks side root place
    pub word : symbol_word same t s ≡ c ∷ symbol_word same side s

  word-zero : (a b : Tree S) → HasPath a → symbol_word same (node a b) s ≡ false ∷ symbol_word same a s
  unfolding symbol_word HasPath
  word-zero a b h = rw h.1 refl

  word-one : (a b : Tree S) → first_path same a s ≡ None → HasPath b → symbol_word same (node a b) s
      ≡ true ∷ symbol_word same b s
  unfolding symbol_word HasPath
  word-one a b e h = rw (e, h.1) refl

  down-zero : (a b : Tree S) (low root place : ℕ) → Stands nodes a low (root + 1)
      → IsFirstPlace same s nodes low (root + 1) place → Down (node a b) root place false
  down-zero a b low root place h k = record {
    side = a;
    seeks = record { low = low; stands = h; found = k };
    word = word-zero a b (some-in a low (root + 1) place h k.after k.below k.has);
  }

  down-one : (a b : Tree S) (low root place i j : ℕ) → Stands nodes b low (root + 1)
      → IsFirstPlace same s nodes low (root + 1) place → Stands nodes a i j → Lacks i j
      → Down (node a b) root place true
  down-one a b low root place i j h k g lacks = record {
    side = b;
    seeks = record { low = low; stands = h; found = k };
    word = word-one a b (none-in a i j g lacks) (some-in b low (root + 1) place h k.after k.below k.has);
  }

  apart : (i j z o : ℕ) → HasSymbol same s nodes i → slice_get nodes j ≡ Some (Branch z o) → i ≡ j → ⊥
  apart i j z o h e p =
      let there = h.1 in
      let here = rw p at there in
      absurd cc

  in-side : (t : Tree S) (root place z o : ℕ) → Seeks t root place → slice_get nodes root ≡ Some (Branch z o)
      → place < root
  in-side t root place z o h e =
      let below = h.found.below in
      elim (cases_lt place root) [
        | inl less ↦ less
        | inr last ↦ absurd (apart place root z o h.found.has e (omega arith))
      ]

  -- to the side of 0 where the nodes_of of that side has the symbol, else to the other
  pub down-first : (t : Tree S) (root place z o : ℕ) → Seeks t root place → slice_get nodes root ≡ Some (Branch z o)
      → z < o → place ≤ z → Down t z place false
  down-first t root place z o h e less before =
      let p = branch-parts nodes t h.low root z o h.stands e in
      let k = h.found in
      rw p.is (elim p.sides [
        | inl i ↦ down-zero p.zero_side p.one_side h.low z place i.2 (record {
          after = k.after;
          below = omega arith;
          has = k.has;
          first = k.first;
        })
        | inr i ↦ let more = i.0 in absurd (omega arith)
      ])

  pub down-second : (t : Tree S) (root place z o : ℕ) → Seeks t root place → slice_get nodes root ≡ Some (Branch z o)
      → z < o → z < place → Down t o place true
  unfolding Lacks
  down-second t root place z o h e less before =
      let p = branch-parts nodes t h.low root z o h.stands e in
      let k = h.found in
      let under = in-side t root place z o h e in
      rw p.is (elim p.sides [
        | inl i ↦
            let some = Stands-some nodes p.zero_side h.low (z + 1) i.2 in
            down-one p.zero_side p.one_side (z + 1) o place h.low (z + 1) i.3 (record {
              after = omega arith;
              below =
                  let size = i.1 in omega arith;
              has = k.has;
              first = λ j q r. k.first j (omega arith) r;
            }) i.2
            (λ j q r. k.first j q (omega arith))
        | inr i ↦ let more = i.0 in absurd (omega arith)
      ])

  down-found : (t : Tree S) (root place z o k : ℕ) → Seeks t root place → slice_get nodes root ≡ Some (Branch z o)
      → o ≤ z → IsFirstPlace same s nodes (o + 1) (z + 1) k → Down t z k false
  down-found t root place z o k h e more f =
      let p = branch-parts nodes t h.low root z o h.stands e in
      rw p.is (elim p.sides [
        | inl i ↦ let less = i.0 in absurd (omega arith)
        | inr i ↦ down-zero p.zero_side p.one_side (o + 1) z k i.2 f
      ])

  down-other : (t : Tree S) (root place z o : ℕ) → Seeks t root place → slice_get nodes root ≡ Some (Branch z o) → o ≤ z
      → Lacks (o + 1) (z + 1) → Down t o place true
  unfolding Lacks
  down-other t root place z o h e more lacks =
      let p = branch-parts nodes t h.low root z o h.stands e in
      let k = h.found in
      let under = in-side t root place z o h e in
      rw p.is (elim p.sides [
        | inl i ↦ let less = i.0 in absurd (omega arith)
        | inr i ↦
            let size = i.1 in
            let below : place < o + 1 = elim (cases_lt place (o + 1)) [
              | inl less ↦ less
              | inr past ↦
                  absurd (lacks place past (omega arith) k.has)
            ] in
            down-one p.zero_side p.one_side h.low o place (o + 1) (z + 1) i.3 (record {
              after = k.after;
              below = below;
              has = k.has;
              first = k.first;
            }) i.2 lacks
      ])

  down-inside : (t : Tree S) (root place z o : ℕ) (found : Option ℕ) → Seeks t root place → slice_get nodes root
      ≡ Some (Branch z o) → z < o → found ≡ (if nat_le place z then Some place else None)
      → MatchOption found (Down t o place true) (λ k. Down t z k false)
  down-inside t root place z o found h e less is = elim (cases_lt z place) [
    | inl past ↦
        let none : found ≡ None = is ∙ rw (lt-leb place z past) refl in
        rw none (down-second t root place z o h e less past)
    | inr before ↦
        let some : found ≡ Some place = is ∙ rw (le-leb place z before) refl in
        rw some (down-first t root place z o h e less before)
  ]

  down-looked : (t : Tree S) (root place z o : ℕ) (found : Option ℕ) → Seeks t root place → slice_get nodes root
      ≡ Some (Branch z o) → o ≤ z → FindsFirst same s nodes (o + 1) (z + 1) found
      → MatchOption found (Down t o place true) (λ k. Down t z k false)
  unfolding Lacks
  down-looked t root place z o None h e more f = down-other t root place z o h e more f
  down-looked t root place z o (Some k) h e more f = down-found t root place z o k h e more f

  -- If the zero side's nodes come first, the symbol's first leaf is in it or after it; else it is looked for
  -- there.
  pub down : (t : Tree S) (root place z o : ℕ) (found : Option ℕ) → Seeks t root place → slice_get nodes root
      ≡ Some (Branch z o)
      → (z < o → found ≡ (if nat_le place z then Some place else None))
      → (o ≤ z → FindsFirst same s nodes (o + 1) (z + 1) found)
      → MatchOption found (Down t o place true) (λ k. Down t z k false)
  down t root place z o found h e inside looked = elim (cases_lt z o) [
    | inl less ↦ down-inside t root place z o found h e less (inside less)
    | inr more ↦ down-looked t root place z o found h e more (looked more)
  ]
