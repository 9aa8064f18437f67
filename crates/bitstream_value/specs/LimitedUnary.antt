-- Unary numbers with a greatest number of bits.
use Rattle.std.specs.Prelude.{ℕ, zero, suc, ◌+◌, Bool, not, List, [], replicate, Option, Some, None, nat_lt, if◌then◌else◌}
use Rattle.bitstream_count.specs.Unary.{unary}
use Rattle.bitstream_value.specs.Tree.{Tree, leaf, node}

-- the code word of a number below `most` is unary, and the code word of `None` is `most` bits that are not the stop
-- bit; a greater number has no code word
abbrev pub limited_unary : Bool → ℕ → Option ℕ → List Bool
limited_unary stop most None = replicate most (not stop)
limited_unary stop most (Some k) = if nat_lt k most then unary stop k else []

-- the tree of the code words after k bits, if at most m more bits follow
unfoldable pub limited_tree : Bool → ℕ → ℕ → Tree (Option ℕ)
limited_tree stop k zero = leaf None
limited_tree stop k (suc m) =
    if stop then node (limited_tree stop (k + 1) m) (leaf (Some k)) else node (leaf (Some k))
    (limited_tree stop (k + 1) m)
