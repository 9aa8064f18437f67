-- What is made of a stream that was lent, if one was: it is there where that was, and what is said of it with
-- the lent stream holds with the stream that the lender had.
use Rattle.std.proofs.Common.{◌≡◌, sym, subst}
use Rattle.std.specs.Prelude.{◌↔◌, Option, None, Some, IsSome, IfSome}
use Rattle.std.specs.Option.{ghost_name_of}
use Rattle.std.specs.Borrow.{GName, MutBor, name_if_some}
use mathlib.Core.Option as maybe

-- a name is not the lack of one
abbrev named : maybe.Option GName → Type 0
named maybe.none = ⊥
named (maybe.some n) = Unit {0}

module _ {A B : Type 0} (name : A → GName) where
  pub still_there : (made : Option A) (lent : Option (MutBor B)) → name_if_some name made ≡ ghost_name_of lent
      → {P : Type 0} → IsSome lent ↔ P → IsSome made ↔ P
  still_there None None e there = there
  still_there None (Some s) e there = absurd (subst named (sym e) tt)
  still_there (Some a) None e there = absurd (subst named e tt)
  still_there (Some a) (Some s) e there = there

  pub still_said : (said : A → B → Type 0) (x : B) (made : Option A) (lent : Option (MutBor B)) → name_if_some name made
      ≡ ghost_name_of lent
      → IfSome lent (λ s. s.now ≡ x) → IfSome lent (λ s. IfSome made (λ a. said a s.now)) → IfSome made (λ a. said a x)
  still_said said x None lent e same holds = tt
  still_said said x (Some a) None e same holds = absurd (subst named e tt)
  still_said said x (Some a) (Some s) e same holds = subst (said a) same holds
