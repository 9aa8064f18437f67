-- The ways down a tree, with what was read or written on them.
use Rattle.std.proofs.Common.{◌≡◌, inl, inr, ℕ, ◌+◌, ◌<◌, ◌≤◌, Bool, true, false, List, ◌∷◌, length, get_or, Option, Some, None, Result, Ok, Err, refl, sym, ap, ◌∙◌, subst, arith}
use Rattle.std.specs.Prelude.{slice_get, nat_le, if◌then◌else◌, IsTrue, ◌↔◌}
use Rattle.std.specs.Result.{IsErrAnd}
use Rattle.std.proofs.lemmas.Bool.{cases_lt}
use Rattle.std.proofs.lemmas.Option.{slice_get_read}
use Rattle.bitstream_count.specs.declared.error.Error.{Error}
use Rattle.bitstream_stream.specs.Reading.ReadTable.{bit_decoder}
use Rattle.bitstream_stream.specs.Reading.Reads.{BitSource, Reads}
use Rattle.bitstream_stream.specs.Writing.Sink.{Sink, Writes, WritesAll}
use Rattle.bitstream_stream.specs.Writing.WriteTable.{bit}
use Rattle.bitstream_stream.proofs.Reading.ReadsLemmas.{Reads-and_then-ok, Reads-pure, exit}
use Rattle.bitstream_stream.proofs.Writing.WriteParts.{all_none, all_err, all_more}
use Rattle.bitstream_value.specs.Nodes.{HasSymbol, IsFirstPlace, FindsFirst}
use Rattle.bitstream_value.specs.Tree.{Tree, node, path_decoder, symbol_word, bit_by_bit}
use Rattle.bitstream_value.specs.declared.huffman.tree.Node.{Node}
use Rattle.bitstream_value.specs.declared.huffman.tree.Node.TheVariants.{Leaf, Branch}
use Rattle.bitstream_value.proofs.NodesLemmas.{Stands, Seeks, Down, down, leaf-is, branch-parts, Stands-within, word-leaf}
use Rattle.bitstream_value.proofs.TreeLemmas.{path_decoder-leaf, path_decoder-node}

-- a node that was read
pub node-at : {S : Type 0} (nodes : List (Node S)) (k : ℕ) (x y : Node S) → k < length nodes → x ≡ get_or nodes k x → x
    ≡ y → slice_get nodes k ≡ Some y
node-at nodes k x y below e is = slice_get_read nodes (length nodes) k x refl below e ∙ ap Some is

pub has-leaf : {S : Type 0} (same : S → S → Bool) (s : S) (nodes : List (Node S)) (k : ℕ) (x : S) {b : Bool}
    → slice_get nodes k ≡ Some (Leaf x) → b ≡ same x s → IsTrue b ↔ HasSymbol same s nodes k
has-leaf same s nodes k x e is = (
  λ t. (x, e, sym is ∙ t),
  λ h.
      let there = h.1 in
      let one : x ≡ h.0 = cc in
      is ∙ ap (λ y. same y s) one ∙ h.2,
)

pub has-branch : {S : Type 0} (same : S → S → Bool) (s : S) (nodes : List (Node S)) (k z : ℕ) {o : ℕ}
    → slice_get nodes k ≡ Some (Branch z o) → IsTrue false ↔ HasSymbol same s nodes k
has-branch same s nodes k z e = (λ t. absurd cc, λ h. let there = h.1 in absurd cc)

-- no place has the symbol, up to one more
pub lacks-more : {S : Type 0} (same : S → S → Bool) (s : S) (nodes : List (Node S)) (low k : ℕ) {b : Bool}
    → ((j : ℕ) → low ≤ j → j < k → HasSymbol same s nodes j → ⊥) → IsTrue b ↔ HasSymbol same s nodes k → b ≡ false
    → (j : ℕ) → low ≤ j → j < k + 1 → HasSymbol same s nodes j → ⊥
lacks-more same s nodes low k before tells not j after below has = elim (cases_lt j k) [
  | inl less ↦ before j after less has
  | inr last ↦
      let place : j ≡ k = omega arith in
      let yes = tells.1 (subst (λ i. HasSymbol same s nodes i) place has) in
      absurd cc
]

-- ---- reading

-- the bits so far led down to the part that ends at `root`, and what is read from there on is the result
pub record Reading {N S : Type 0} (K : BitSource N) (nodes : List (Node S)) (t : Tree S) (from : N) (root : ℕ)
    (to : N) : Type 0 where
  pub below : Tree S
  pub low : ℕ
  pub stands : Stands nodes below low (root + 1)
  pub on : (r : Result S Error) (z : N) → Reads K (path_decoder below) to r z → Reads K (path_decoder t) from r z

-- one bit on
on-bit : {N S : Type 0} {K : BitSource N} {from to m : N} (t u a b : Tree S) (c : Bool) → u ≡ node a b
    → ((r : Result S Error) (z : N) → Reads K (path_decoder u) to r z → Reads K (path_decoder t) from r z)
    → Reads K bit_decoder to (Ok c) m
    → (r : Result S Error) (z : N) → Reads K (if c then path_decoder b else path_decoder a) m r z
    → Reads K (path_decoder t) from r z
on-bit t u a b c is on h r z k = on r z (rw (is, path_decoder-node)
    (Reads-and_then-ok bit_decoder (λ d. if d then path_decoder b else path_decoder a) h k))

module _ {N S : Type 0} {K : BitSource N} {nodes : List (Node S)} {t : Tree S} {from : N} where
  pub Reading-start : (root : ℕ) → root + 1 ≡ length nodes → Stands nodes t 0 (length nodes)
      → Reading K nodes t from root from
  Reading-start root e h = record { below = t; low = 0; stands = rw e h; on = λ r z k. k }

  pub Reading-within : {root : ℕ} {to : N} → Reading K nodes t from root to → root < length nodes
  Reading-within {root = root} h = let le = Stands-within nodes h.below h.low (root + 1) h.stands in omega arith

  pub Reading-falls : {root : ℕ} {to : N} (z o : ℕ) → Reading K nodes t from root to → slice_get nodes root
      ≡ Some (Branch z o) → (z < root) × (o < root)
  Reading-falls {root = root} z o h e =
      let p = branch-parts nodes h.below h.low root z o h.stands e in
      elim p.sides [
        | inl k ↦ let size = k.1 in let less = k.0 in (omega arith, omega arith)
        | inr k ↦ let size = k.1 in let less = k.0 in (omega arith, omega arith)
      ]

  pub Reading-zero : {root : ℕ} {to m : N} (z o : ℕ) → Reading K nodes t from root to → slice_get nodes root
      ≡ Some (Branch z o) → Reads K bit_decoder to (Ok false) m → Reading K nodes t from z m
  Reading-zero {root = root} z o h e k =
      let p = branch-parts nodes h.below h.low root z o h.stands e in
      elim p.sides [
        | inl i ↦ record {
          below = p.zero_side;
          low = h.low;
          stands = i.2;
          on =
              on-bit t h.below p.zero_side p.one_side false p.is h.on k;
        }
        | inr i ↦ record {
          below = p.zero_side;
          low = o + 1;
          stands = i.2;
          on =
              on-bit t h.below p.zero_side p.one_side false p.is h.on k;
        }
      ]

  pub Reading-one : {root : ℕ} {to m : N} (z o : ℕ) → Reading K nodes t from root to → slice_get nodes root
      ≡ Some (Branch z o) → Reads K bit_decoder to (Ok true) m → Reading K nodes t from o m
  Reading-one {root = root} z o h e k =
      let p = branch-parts nodes h.below h.low root z o h.stands e in
      elim p.sides [
        | inl i ↦ record {
          below = p.one_side;
          low = z + 1;
          stands = i.3;
          on =
              on-bit t h.below p.zero_side p.one_side true p.is h.on k;
        }
        | inr i ↦ record {
          below = p.one_side;
          low = h.low;
          stands = i.3;
          on =
              on-bit t h.below p.zero_side p.one_side true p.is h.on k;
        }
      ]

  -- a leaf
  pub Reading-done : {root : ℕ} {to : N} (x : S) → Reading K nodes t from root to → slice_get nodes root ≡ Some (Leaf x)
      → Reads K (path_decoder t) from (Ok x) to
  Reading-done {root = root} {to = to} x h e =
      let is = leaf-is nodes h.below h.low root x h.stands e in
      h.on (Ok x) to (rw (is, path_decoder-leaf) (Reads-pure x to))

  -- a bit that fails
  pub Reading-stop : {root : ℕ} {to m : N} (z o : ℕ) {x : Error} (r : Result S Error) → Reading K nodes t from root to
      → slice_get nodes root ≡ Some (Branch z o) → IsErrAnd r (λ y. y ≡ x) → Reads K bit_decoder to (Err x) m
      → Reads K (path_decoder t) from r m
  Reading-stop {root = root} {m = m} z o r h e is k =
      let p = branch-parts nodes h.below h.low root z o h.stands e in
      h.on r m (rw (p.is, path_decoder-node) (exit (λ d. if d then path_decoder p.one_side else path_decoder p.zero_side) r is
      k))

-- ---- writing

-- the bits so far led down to the part that ends at `root`, in which the symbol's first leaf is at `place`
pub record Writing {P S : Type 0} (K : Sink P) (same : S → S → Bool) (s : S) (nodes : List (Node S))
    (t : Tree S) (from : P) (root place : ℕ) (to : P) : Type 0 where
  pub below : Tree S
  pub seeks : Seeks same s nodes below root place
  pub on : (r : Result (Unit {0}) Error) (z : P) → WritesAll K (bit_by_bit (symbol_word same below s)) to r z
      → WritesAll K (bit_by_bit (symbol_word same t s)) from r z

module _ {P S : Type 0} {K : Sink P} {same : S → S → Bool} {s : S} {nodes : List (Node S)} {t : Tree S} {from : P} where
  pub Writing-start : (root place : ℕ) → root + 1 ≡ length nodes → Stands nodes t 0 (length nodes)
      → IsFirstPlace same s nodes 0 (length nodes) place → Writing K same s nodes t from root place from
  Writing-start root place e h k = record {
    below = t;
    seeks = record { low = 0; stands = rw e h; found = rw e k };
    on =
        λ r z w. w;
  }

  pub Writing-within : {root place : ℕ} {to : P} → Writing K same s nodes t from root place to → root < length nodes
  Writing-within {root = root} h = let le = Stands-within nodes h.below h.seeks.low (root + 1) h.seeks.stands in
      omega arith

  pub Writing-falls : {root place : ℕ} {to : P} (z o : ℕ) → Writing K same s nodes t from root place to
      → slice_get nodes root ≡ Some (Branch z o) → (z < root) × (o < root)
  Writing-falls {root = root} z o h e =
      let p = branch-parts nodes h.below h.seeks.low root z o h.seeks.stands e in
      elim p.sides [
        | inl k ↦ let size = k.1 in let less = k.0 in (omega arith, omega arith)
        | inr k ↦ let size = k.1 in let less = k.0 in (omega arith, omega arith)
      ]

  -- the side that the path takes, as it was found
  pub goes-zero : {root place : ℕ} {to : P} (z o k : ℕ) (found : Option ℕ)
      (h : Writing K same s nodes t from root place to) → slice_get nodes root ≡ Some (Branch z o)
      → (z < o → found ≡ (if nat_le place z then Some place else None))
      → (o ≤ z → FindsFirst same s nodes (o + 1) (z + 1) found) → found ≡ Some k
      → Down same s nodes h.below z k false
  goes-zero {root = root} {place = place} z o k found h e inside looked is = let side =
      down same s nodes h.below root place z o found h.seeks e inside looked in rw is at side

  pub goes-one : {root place : ℕ} {to : P} (z o : ℕ) (found : Option ℕ)
      (h : Writing K same s nodes t from root place to) → slice_get nodes root ≡ Some (Branch z o)
      → (z < o → found ≡ (if nat_le place z then Some place else None))
      → (o ≤ z → FindsFirst same s nodes (o + 1) (z + 1) found) → found ≡ None
      → Down same s nodes h.below o place true
  goes-one {root = root} {place = place} z o found h e inside looked is = let side =
      down same s nodes h.below root place z o found h.seeks e inside looked in rw is at side

  -- one bit on
  pub Writing-down : {root place : ℕ} {to m : P} (c : Bool) (root' place' : ℕ)
      (h : Writing K same s nodes t from root place to) → Down same s nodes h.below root' place' c
      → Writes {T = Unit {0}} K (bit c) to (Ok tt) m
      → Writing K same s nodes t from root' place' m
  Writing-down {to = to} {m = m} c root' place' h d w = record {
    below = d.side;
    seeks = d.seeks;
    on = λ r z k.
        let here : WritesAll K (bit_by_bit (c ∷ symbol_word same d.side s)) to r z =
        all_more K (bit c) (bit_by_bit (symbol_word same d.side s)) to m r z w k in
        h.on r z (subst (λ (v : List Bool). WritesAll K (bit_by_bit v) to r z) (sym d.word) here);
  }

  -- a bit that fails
  pub Writing-stop : {root place : ℕ} {to m : P} (c : Bool) (root' place' : ℕ) {x : Error}
      (r : Result (Unit {0}) Error) (h : Writing K same s nodes t from root place to)
      → Down same s nodes h.below root' place' c → r ≡ Err x
      → Writes {T = Unit {0}} K (bit c) to (Err x) m → WritesAll K (bit_by_bit (symbol_word same t s)) from r m
  Writing-stop {to = to} {m = m} c root' place' {x = x} r h d is w =
      let here : WritesAll K (bit_by_bit (c ∷ symbol_word same d.side s)) to r m =
      all_err K (bit c) (bit_by_bit (symbol_word same d.side s)) to r x m is w in
      h.on r m (subst (λ (v : List Bool). WritesAll K (bit_by_bit v) to r m) (sym d.word) here)

  -- a leaf
  pub Writing-done : {root place : ℕ} {to : P} (x : S) → Writing K same s nodes t from root place to
      → slice_get nodes root ≡ Some (Leaf x) → WritesAll K (bit_by_bit (symbol_word same t s)) from (Ok tt) to
  Writing-done {root = root} {to = to} x h e =
      let is = leaf-is nodes h.below h.seeks.low root x h.seeks.stands e in
      h.on (Ok tt) to (rw (is, word-leaf same s nodes x) (all_none K to))

  pub Writing-end : {root place : ℕ} {to : P} (x : Node S) → Writing K same s nodes t from root place to
      → slice_get nodes root ≡ Some x → ((z o : ℕ) → x ≡ Branch z o → ⊥)
      → WritesAll K (bit_by_bit (symbol_word same t s)) from (Ok tt) to
  Writing-end (Leaf y) h e other = Writing-done y h e
  Writing-end (Branch z o) h e other = absurd (other z o refl)
