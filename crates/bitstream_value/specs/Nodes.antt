-- A tree as a list of nodes, in which a branch holds the places of its two sides.
use Rattle.std.specs.Prelude.{◌≡◌, ℕ, zero, suc, ◌+◌, ◌-◌, ◌<◌, ◌≤◌, ◌^◌, ◌==◌, nat_lt, if◌then◌else◌, Bool, true, List, ◌++◌, length, map, Option, Some, None, slice_get, MatchOption, ⊤}
use Rattle.bitstream_value.specs.Tree.{Tree, leaf, node}
use Rattle.bitstream_value.specs.declared.huffman.tree.Node.{Node}
use Rattle.bitstream_value.specs.declared.huffman.tree.Node.TheVariants.{Leaf, Branch}

-- two trees as one, if both are there
abbrev pub both : {S : Type 0} → Option (Tree S) → Option (Tree S) → Option (Tree S)
both None y = None
both (Some a) None = None
both (Some a) (Some b) = Some (node a b)

-- The tree whose nodes end with this one and lie from `low` up to `end`. A leaf is alone. A branch follows the
-- nodes of its two sides, either of which may come first, and each of which ends at the place that the branch
-- names.
abbrev pub tree_behind : {S : Type 0} → (ℕ → ℕ → Option (Tree S)) → Option (Node S) → ℕ → ℕ → Option (Tree S)
tree_behind stands None low end = None
tree_behind stands (Some (Leaf x)) low end = if end == low + 1 then Some (leaf x) else None
tree_behind stands (Some (Branch z o)) low end =
    if nat_lt z o
    then (if end == o + 2 then both (stands low (z + 1)) (stands (z + 1) (o + 1)) else None)
    else (if end == z + 2 then both (stands (o + 1) (z + 1)) (stands low (o + 1)) else None)

-- the tree whose nodes lie from `low` up to `end`, of at most n levels
unfoldable pub tree_between : {S : Type 0} → List (Node S) → ℕ → ℕ → ℕ → Option (Tree S)
tree_between nodes zero low end = None
tree_between nodes (suc n) low end = tree_behind (tree_between nodes n) (slice_get nodes (end - 1)) low end

-- the tree of all nodes
abbrev pub nodes_tree : {S : Type 0} → List (Node S) → Option (Tree S)
nodes_tree nodes = tree_between nodes (length nodes) 0 (length nodes)

-- a node with its places moved by n
abbrev pub shift_node : {S : Type 0} → ℕ → Node S → Node S
shift_node n (Leaf x) = Leaf x
shift_node n (Branch z o) = Branch (z + n) (o + n)

-- the places of the node, moved by n, are numbers of 64 bits
abbrev pub FitsShifted : {S : Type 0} → ℕ → Node S → Type 0
FitsShifted n (Leaf x) = ⊤
FitsShifted n (Branch z o) = (z + n < 2 ^ 64) × (o + n < 2 ^ 64)

-- the nodes of two trees, one after the other, and the places of their roots
pub record Joined {S : Type 0} (first second nodes : List (Node S)) (first_root second_root : ℕ) : Type 0 where
  pub nodes_are : nodes ≡ first ++ map (shift_node (length first)) second
  pub first_ends : first_root + 1 ≡ length first
  pub second_ends : second_root + 1 ≡ length first + length second

-- a leaf whose symbol is the same as s is at place k
abbrev pub HasSymbol : {S : Type 0} → (S → S → Bool) → S → List (Node S) → ℕ → Type 0
HasSymbol {S} same s nodes k = (x : S) × (slice_get nodes k ≡ Some (Leaf x)) × (same x s ≡ true)

-- k is the first such place from `low` up to `end`
pub record IsFirstPlace {S : Type 0} (same : S → S → Bool) (s : S) (nodes : List (Node S)) (low end k : ℕ) :
    Type 0 where
  pub after : low ≤ k
  pub below : k < end
  pub has : HasSymbol same s nodes k
  pub first : (j : ℕ) → low ≤ j → j < k → HasSymbol same s nodes j → ⊥

-- it is found, or there is none
abbrev pub FindsFirst : {S : Type 0} → (S → S → Bool) → S → List (Node S) → ℕ → ℕ → Option ℕ → Type 0
FindsFirst same s nodes low end found =
    MatchOption found ((k : ℕ) → low ≤ k → k < end → HasSymbol same s nodes k → ⊥) (IsFirstPlace same s nodes low end)
