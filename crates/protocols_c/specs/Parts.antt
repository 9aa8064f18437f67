-- Made by `./format --c`, which prints the same for each crate: edit tools/describing/c/shared.py.
-- Lists of parts and of enums, of whose items the caller has structs and numbers of C.
use Rattle.std.specs.Prelude.{◌≡◌, ◌∷◌, [], ℕ, List, Option, Some, None, Result, IsOk, length, map}
use Rattle.bitstream_io.specs.Callers.{Decoder, Error, BitSource, Reads, ReadsOwn, result_map}
use Rattle.protocols_c.specs.Lists.{stored}

-- A read of `count` parts, which the slice holds as structs of C.
pub record ItemsInto {R A C : Type 0} (K : BitSource R) (decoder : Decoder (List A)) (to_c : A → C) (count : ℕ) (old : R)
    (was : List C) (result : Result (Unit {0}) Error) (new : R) (now : List C) : Type 0 where
  pub all : List A
  pub reads : Reads K decoder old (result_map (λ _. all) result) new
  pub size : IsOk result → length all ≡ count
  pub keeps : now ≡ stored (map to_c all) was

-- the same for parts with errors of their own
pub record PartsInto {R A C E : Type 0} (K : BitSource R) (becomes : Error → E → Type 0)
    (decoder : Decoder (Result (List A) E)) (to_c : A → C) (count : ℕ) (old : R) (was : List C)
    (result : Result (Unit {0}) E) (new : R) (now : List C) : Type 0 where
  pub all : List A
  pub reads : ReadsOwn K becomes decoder old (result_map (λ _. all) result) new
  pub size : IsOk result → length all ≡ count
  pub keeps : now ≡ stored (map to_c all) was

-- so many parts were read and kept
pub record PartsKept {A C : Type 0} (read : List A → Type 0) (to_c : A → C) (n : ℕ) (was now : List C) : Type 0 where
  pub all : List A
  pub reads : read all
  pub size : length all ≡ n
  pub keeps : now ≡ stored (map to_c all) was

-- what an item of C stands for fits its bits, if it stands for a value
pub record ItemFits {A C : Type 0} (from_c : C → Option A) (Fits : A → Type 0) (item : C) : Type 0 where
  pub fits : (value : A) → from_c item ≡ Some value → Fits value

-- a value before others, unless there is none
abbrev pub both_made : {A : Type 0} → Option A → Option (List A) → Option (List A)
both_made (Some value) (Some values) = Some (value ∷ values)
both_made (Some value) None = None
both_made None values = None

-- the values of all structs of C, or none if one of them has none
abbrev pub all_made : {A C : Type 0} → (C → Option A) → List C → Option (List A)
all_made from_c [] = Some []
all_made from_c (item ∷ items) = both_made (from_c item) (all_made from_c items)
