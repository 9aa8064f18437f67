-- Made by `./format --c`, which prints the same for each crate: edit tools/describing/c/shared.py.
-- Lists whose items the caller has.
use Rattle.std.specs.Prelude.{◌≡◌, ◌++◌, ℕ, List, Result, IfOk, IsOk, length, take, drop}
use Rattle.bitstream_io.specs.Callers.{Decoder, Error, BitSource, Reads, ReadsOwn, result_map}

-- The items of a list in a slice that held others: as many as there is room for. The others are read and not kept.
abbrev pub stored : {A : Type 0} → List A → List A → List A
stored all was = take (length was) all ++ drop (length all) was

-- a read of `count` items, of which the slice has those for which there is room
pub record ReadsInto {R A : Type 0} (K : BitSource R) (decoder : Decoder (List A)) (count : ℕ) (old : R) (was : List A)
    (result : Result (Unit {0}) Error) (new : R) (now : List A) : Type 0 where
  pub all : List A
  pub reads : Reads K decoder old (result_map (λ _. all) result) new
  pub size : IsOk result → length all ≡ count
  pub keeps : now ≡ stored all was

-- The same for a size that a number states, of which some numbers state none. The result is the number of items.
pub record ReadsStated {R A E : Type 0} (K : BitSource R) (becomes : Error → E → Type 0)
    (decoder : Decoder (Result (List A) E)) (old : R) (was : List A) (result : Result ℕ E) (new : R)
    (now : List A) : Type 0 where
  pub all : List A
  pub reads : ReadsOwn K becomes decoder old (result_map (λ _. all) result) new
  pub size : IfOk result (λ n. length all ≡ n)
  pub keeps : now ≡ stored all was

-- so many items were read and kept
pub record ItemsKept {A : Type 0} (read : List A → Type 0) (n : ℕ) (was now : List A) : Type 0 where
  pub all : List A
  pub reads : read all
  pub size : length all ≡ n
  pub keeps : now ≡ stored all was
