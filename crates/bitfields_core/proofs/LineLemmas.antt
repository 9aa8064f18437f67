-- The first of some lines, as a value is read from it.
use Rattle.std.specs.Borrow.{Bor}
use Rattle.std.specs.List.{slice_get}
use Rattle.std.proofs.Common.{◌≡◌, ℕ, List, [], ◌∷◌, map, Some, ap, refl}

pub first_line : (lines : List (Bor (List ℕ))) {line : Bor (List ℕ)} → Some line ≡ slice_get lines 0
    → (others : List (List ℕ)) × (map (λ x. x.now) lines ≡ line.now ∷ others)
first_line [] h = absurd (cc)
first_line (first ∷ others) {line = line} h =
    let is : first ≡ line = cc in
    (map (λ x. x.now) others, ap (λ (x : Bor (List ℕ)). x.now ∷ map (λ y. y.now) others) is)
