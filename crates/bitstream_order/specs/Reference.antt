-- The references through which a stream is reached.
use Rattle.std.specs.Prelude.{ℕ, List, [], ◌∷◌, length, Option, Some, None}
use Rattle.std.specs.Borrow.{GName}

-- A reference through which a stream is reached: its name and, if it leads to a slice, the bytes that the slice held
-- when the stream was made. No request changes either.
pub record Reference : Type 0 where
  pub name : GName
  pub was : Option (List ℕ)

-- a reference of this name, not to a slice
abbrev pub by_name : GName → Reference
by_name name = record { name = name; was = None }

-- a reference of this name to a slice that held these bytes
abbrev pub to_slice : GName → List ℕ → Reference
to_slice name was = record { name = name; was = Some was }

-- the number of bytes, if they are known
abbrev pub count_told : Option (List ℕ) → Option ℕ
count_told (Some bytes) = Some (length bytes)
count_told None = None

-- the first of two numbers that is known
abbrev pub first_told : Option ℕ → Option ℕ → Option ℕ
first_told (Some n) other = Some n
first_told None other = other

-- the capacity in bytes of a stream that is reached through these references: the length of the slice to which
-- one leads
abbrev pub capacity_of : List Reference → Option ℕ
capacity_of [] = None
capacity_of (reference ∷ others) = first_told (count_told reference.was) (capacity_of others)
