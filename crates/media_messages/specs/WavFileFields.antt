-- The value of a `WavFile` in contracts.
use Rattle.std.specs.Prelude.{ℕ, List}

-- Made by `./format` from formats/wav_file.fields: edit that file and make this one anew.

-- the fields, and the items of the lists
pub record WavFileFields : Type 0 where
  pub tag : ℕ
  pub channels : ℕ
  pub rate : ℕ
  pub byte_rate : ℕ
  pub align : ℕ
  pub bits : ℕ
  pub samples : List ℕ
