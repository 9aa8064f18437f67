-- The contents of a Vorbis comment, as the bytes of its texts.
use Rattle.std.specs.Prelude.{ℕ, List}

-- the text that names the program that wrote the file, and the texts about the file
pub record Comment : Type 0 where
  pub vendor : List ℕ
  pub comments : List (List ℕ)
