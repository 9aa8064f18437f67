-- The linear predictions that can be written.
use Rattle.std.specs.Prelude.{◌≤◌, ℕ, length}
use Rattle.std.specs.List.{All}
use Rattle.bitstream_io.specs.Callers.{FitsSignedBits}
use Rattle.flac_codec.specs.declared.linear.Prediction.{Prediction}

-- a prediction that can be written for this many samples
pub record IsPrediction (samples : ℕ) (prediction : Prediction) : Type 0 where
  pub some : 1 ≤ length prediction.weights.items
  pub most : length prediction.weights.items ≤ 32
  pub long : length prediction.weights.items ≤ samples
  pub narrow : 1 ≤ prediction.precision
  pub precise : prediction.precision ≤ 15
  pub shift : prediction.shift ≤ 15
  pub fit : All (FitsSignedBits prediction.precision) prediction.weights.items
