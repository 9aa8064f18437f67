-- Prefix codes: trees of symbols, whose code words are the paths to the leaves.
use Rattle.std.specs.Prelude.{◌≡◌, ◌⊎◌, Bool, true, false, List, [], ◌∷◌, Option, Some, None, option_map, if◌then◌else◌}
use Rattle.bitstream_count.specs.Codec.{Decoder, and_then, pure}
use Rattle.bitstream_stream.specs.Reading.ReadTable.{bit_decoder}
pub use Rattle.bitstream_stream.specs.Writing.WriteTable.{bit_by_bit}

-- a leaf with its symbol; or a branch: the bit 0 leads to its first side and the bit 1 to the second
pub data Tree (S : Type 0) : Type 0 where
  leaf : S → Tree S
  node : (zero_side : Tree S) → (one_side : Tree S) → Tree S

-- the bits lead from the root to a leaf of s
abbrev pub IsPath : {S : Type 0} → Tree S → List Bool → S → Type 0
IsPath (leaf x) [] s = x ≡ s
IsPath (leaf x) (b ∷ w) s = ⊥
IsPath (node a b) [] s = ⊥
IsPath (node a b) (false ∷ w) s = IsPath a w s
IsPath (node a b) (true ∷ w) s = IsPath b w s

-- a read of a path: it takes the path's bits, one after another, and returns the symbol at its leaf
unfoldable pub path_decoder : {S : Type 0} → Tree S → Decoder S
path_decoder (leaf x) = pure x
path_decoder (node a b) = and_then bit_decoder (λ c. if c then path_decoder b else path_decoder a)

-- the first one, if it is there, else the second
abbrev pub or_else : {A : Type 0} → Option A → Option A → Option A
or_else None y = y
or_else (Some x) y = Some x

-- the path of the first leaf from the side of 0 whose symbol is the same as s
abbrev pub first_path : {S : Type 0} → (S → S → Bool) → Tree S → S → Option (List Bool)
first_path same (leaf x) s = if same x s then Some [] else None
first_path same (node a b) s =
    or_else (option_map (λ w. false ∷ w) (first_path same a s)) (option_map (λ w. true ∷ w) (first_path same b s))

-- a list, or the empty one if there is none
abbrev pub or_nothing : {A : Type 0} → Option (List A) → List A
or_nothing None = []
or_nothing (Some xs) = xs

-- the code word that is written for s: no bits if no leaf has it
unfoldable pub symbol_word : {S : Type 0} → (S → S → Bool) → Tree S → S → List Bool
symbol_word same t s = or_nothing (first_path same t s)

-- at the first place where they differ, u leads to the side of 0 and v to the side of 1
abbrev pub IsBefore : List Bool → List Bool → Type 0
IsBefore [] v = ⊥
IsBefore (b ∷ u) [] = ⊥
IsBefore (false ∷ u) (true ∷ v) = Unit {0}
IsBefore (true ∷ u) (false ∷ v) = ⊥
IsBefore (false ∷ u) (false ∷ v) = IsBefore u v
IsBefore (true ∷ u) (true ∷ v) = IsBefore u v

-- w is the path of the first leaf whose symbol is the same as s
pub record IsFirstPath {S : Type 0} (same : S → S → Bool) (t : Tree S) (s : S) (w : List Bool) : Type 0 where
  pub leads : (x : S) × IsPath t w x × (same x s ≡ true)
  pub first : (u : List Bool) (x : S) → IsPath t u x → same x s ≡ true → (w ≡ u) ⊎ IsBefore w u
